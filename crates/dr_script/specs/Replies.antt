-- What a reply of the program says, and what one line of a script does. No public contract cites this file.
use Rattle.std.specs.Prelude.{◌≡◌, ◌⊎◌, ℕ, Bool, true, List, ◌++◌, Option, Some, None, Result, Ok, Err, codes, decimal, if◌then◌else◌}
use Rattle.std.specs.Io.KnownBytes.{IsAtEnd}
use Rattle.hex.specs.Hex.{encode_lower}
use Rattle.dr_lines.specs.declared.line_error.LineError.{LineError}
use Rattle.dr_lines.specs.declared.line_error.LineError.TheVariants.{ReadFault}
use Rattle.dr_lines.specs.Lines.{TakesLine, EndsInLine}
use Rattle.dr_lines.specs.Written.{Writes}
use Rattle.dr_requests.specs.declared.command_error.CommandError.TheVariants.{NoMemory, Line}
use Rattle.dr_script.specs.declared.reply.Reply.{Reply}
use Rattle.dr_script.specs.declared.reply.Reply.TheVariants.{SpecOk, Accepted, Sealed, Joined, Job, Committed, Pinned, Said, Hexadecimal, Refused, Fault}
use Rattle.dr_timeline.specs.CoreState.{CoreState}
use Rattle.dr_script.specs.Commands.{Answered, answered, joined_line, refused_by}
use Rattle.dr_script.specs.Script.{Moves, ScriptFrom, first_step}
use Rattle.dr_script.specs.Runs.{Answering, BreaksOff, Ends}

-- what a reply writes, and whether it refuses the line
abbrev pub seen : Reply → Answered
seen SpecOk = answered (codes "spec ok")
seen (Accepted number) = answered (codes "accepted " ++ decimal number)
seen Sealed = answered (codes "sealed")
seen (Joined purpose version) = answered (joined_line purpose version)
seen (Job number) = answered (codes "job " ++ decimal number)
seen Committed = answered (codes "committed")
seen (Pinned number) = answered (codes "pin " ++ decimal number)
seen (Said line) = answered line.items
seen (Hexadecimal bytes) = answered (encode_lower bytes.items)
seen (Refused line) = record { line = line.items; is_refused = true }
seen (Fault e) = refused_by e

-- that is answered, or want of memory
abbrev pub IsAnswer : Answered → Answered → Type 0
IsAnswer answer reply = (reply ≡ answer) ⊎ (reply ≡ refused_by NoMemory)

-- the first line opens the script as it says, or there is no memory
abbrev pub Opens : List ℕ → Result CoreState Reply → Type 0
Opens line (Ok s) = first_step line ≡ Ok s
Opens line (Err reply) = (first_step line ≡ Err (seen reply)) ⊎ (seen reply ≡ refused_by NoMemory)

-- the first line opens the script, or there is none, or reading failed, with that rest left to the stream
abbrev pub OpensScript : (no_failure failure : Type 0) → (left next rest : Option (List ℕ)) → Option (Result CoreState Reply) → Type 0
OpensScript no_failure failure left next rest None = IsAtEnd left × no_failure
OpensScript no_failure failure left next rest (Some opened) = ((line : List ℕ) × TakesLine left next line × Opens line opened × no_failure) ⊎ ((opened ≡ Err (Fault (Line ReadFault))) × EndsInLine left rest × failure)

-- a line is answered, or there is none, or reading failed, which changes nothing
abbrev pub Turns : (no_failure failure : Type 0) → (left next rest : Option (List ℕ)) → CoreState → CoreState → Option (Result Reply LineError) → Type 0
Turns no_failure failure left next rest old new None = IsAtEnd left × no_failure
Turns no_failure failure left next rest old new (Some (Ok reply)) = (line : List ℕ) × TakesLine left next line × Moves old line (seen reply) new × no_failure
Turns no_failure failure left next rest old new (Some (Err e)) = (e ≡ ReadFault) × EndsInLine left rest × failure

-- what a part of a run wrote behind what was kept before, with what it answers: the text of what it read, but for what it keeps or lost
abbrev pub RunsOn : (All Whole : Answering) (no_failure failure : Type 0) (left rest old new : Option (List ℕ)) (before kept : List ℕ) → Result Bool LineError → Type 0
RunsOn All Whole no_failure failure left rest old new before kept (Ok refuses) =
    (text : List ℕ) × Writes old new (before ++ text) kept × Ends All Whole no_failure failure left rest text (if refuses then 1 else 0)
RunsOn All Whole no_failure failure left rest old new before kept (Err e) =
    (text : List ℕ) × ((lost : List ℕ) × Writes old new (before ++ text) lost) × BreaksOff All Whole no_failure failure left rest text

-- the answers from a state
abbrev pub AnswersFrom : CoreState → Answering
AnswersFrom s lines made = (new : CoreState) × ScriptFrom s lines made new
