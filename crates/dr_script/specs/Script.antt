-- A script: lines, and the line that is written for each. Which it is, is determined but for want of memory and of threads.
use Rattle.std.specs.Prelude.{◌≡◌, ◌⊎◌, ℕ, Bool, nat_lt, List, [], ◌∷◌, ◌++◌, length, Result, Ok, Err, codes, if◌then◌else◌}
use Rattle.std.specs.List.{flat_map, list_any}
use Rattle.dr_base.specs.Reading.{◌>>=◌, passed}
use Rattle.dr_schema.specs.declared.schema.Schema.{Schema}
use Rattle.dr_spec.specs.declared.spec_error.SpecError.{SpecError}
use Rattle.dr_spec.specs.Refusal as spec
use Rattle.dr_spec.specs.SpecOf.{spec_of}
use Rattle.dr_timeline.specs.CoreState.{CoreState, empty_core}
use Rattle.dr_lines.specs.declared.line_error.LineError.TheVariants.{LineTooLong}
use Rattle.dr_lines.specs.Lines.{longest_line}
use Rattle.dr_requests.specs.declared.command_error.CommandError.{CommandError}
use Rattle.dr_requests.specs.declared.command_error.CommandError.TheVariants.{NoMemory, Line}
use Rattle.dr_requests.specs.declared.request.Request.{Request}
use Rattle.dr_script.specs.declared.script_error.ScriptError.{ScriptError}
use Rattle.dr_script.specs.declared.script_error.ScriptError.TheVariants.{Command}
use Rattle.dr_script.specs.Commands.{Answered, AsksIn, answered, not_started, refused, refused_by, told, carried_out}
use Rattle.dr_requests.specs.Request.{request_in}

-- ---- the spec line

abbrev pub opened_by : Result Schema SpecError → Result CoreState Answered
opened_by (Ok schema) = Ok (empty_core schema)
opened_by (Err e) = Err (refused (spec.number_of e) (spec.name_of e) (spec.arg_of e))

-- what a line within the limit asks for is done
abbrev pub line_done : CoreState → List ℕ → Result (Answered × CoreState) ScriptError
line_done s line = do
  request ← passed Command (request_in line)
  carried_out s request

-- a refusal is told, and changes nothing
abbrev pub settled : CoreState → Result (Answered × CoreState) ScriptError → Answered × CoreState
settled s (Ok done) = done
settled s (Err e) = (told e, s)

-- a line within the limit, from a state
abbrev pub answer_line : CoreState → List ℕ → Answered × CoreState
answer_line s line = settled s (line_done s line)

-- the spec line within the limit
abbrev pub open_line : List ℕ → Result CoreState Answered
open_line line = opened_by (spec_of line)

-- a line of the script, from a state: what is written for it, and the state after it
abbrev pub step : CoreState → List ℕ → Answered × CoreState
step s line = if nat_lt longest_line (length line) then (refused_by (Line LineTooLong), s) else answer_line s line

-- the first line, which is the spec: the state that the script begins with, or what is written where there is none
abbrev pub first_step : List ℕ → Result CoreState Answered
first_step line = if nat_lt longest_line (length line) then Err (refused_by (Line LineTooLong)) else open_line line

-- that is answered, with that state after it
abbrev pub Becomes : Answered × CoreState → Answered → CoreState → Type 0
Becomes answer reply new = (reply ≡ answer.0) × (new ≡ answer.1)

-- what a line asks for; a line over the limit asks for nothing
abbrev pub asked_by : List ℕ → Result (Request (List ℕ)) CommandError
asked_by line = if nat_lt longest_line (length line) then Err (Line LineTooLong) else request_in line

-- a line is answered as the script says; or it is refused for want of memory, or where it asks a query for want of a thread,
-- which changes nothing
abbrev pub Moves : CoreState → List ℕ → Answered → CoreState → Type 0
Moves old line reply new =
    Becomes (step old line) reply new ⊎ (Becomes (refused_by NoMemory, old) reply new ⊎ (AsksIn (asked_by line) × (reply ≡ not_started) × (new ≡ old)))

-- lines in turn, one answer each
abbrev pub ScriptFrom : CoreState → List (List ℕ) → List Answered → CoreState → Type 0
ScriptFrom old [] [] new = new ≡ old
ScriptFrom old [] (a ∷ made) new = ⊥
ScriptFrom old (line ∷ lines) [] new = ⊥
ScriptFrom old (line ∷ lines) (a ∷ made) new = (mid : CoreState) × Moves old line a mid × ScriptFrom mid lines made new

-- `spec ok`, and then the answers to the lines behind the spec
abbrev pub GoesOn : CoreState → List (List ℕ) → List Answered → Type 0
GoesOn s lines made = (others : List Answered) × (made ≡ answered (codes "spec ok") ∷ others) × ((new : CoreState) × ScriptFrom s lines others new)

-- a spec that is refused ends the script
abbrev pub ScriptAfter : Result CoreState Answered → List (List ℕ) → List Answered → Type 0
ScriptAfter (Ok s) lines made = GoesOn s lines made
ScriptAfter (Err refusal) lines made = made ≡ refusal ∷ []

-- the answers to lines of which the first is the spec
abbrev pub AnswersLines : List (List ℕ) → List Answered → Type 0
AnswersLines [] made = made ≡ []
AnswersLines (first ∷ lines) made = ScriptAfter (first_step first) lines made

-- a script: its lines and their answers; or there is no memory to begin, which ends it
abbrev pub Script : List (List ℕ) → List Answered → Type 0
Script lines made = AnswersLines lines made ⊎ (made ≡ refused_by NoMemory ∷ [])

-- the script isn't ended by its first line: that is the spec, or isn't read yet
abbrev pub IsOpen : List Answered → Type 0
IsOpen [] = Unit {0}
IsOpen (a ∷ made) = a ≡ answered (codes "spec ok")

-- ---- the text of a script

-- a line for each answer
abbrev pub text_of : List Answered → List ℕ
text_of made = flat_map (λ a. a.line ++ 10 ∷ []) made

-- whether a line was refused
abbrev pub any_refused : List Answered → Bool
any_refused made = list_any (λ a. a.is_refused) made

-- 1 where a line was refused, and else 0
abbrev pub status_of : List Answered → ℕ
status_of made = if any_refused made then 1 else 0
