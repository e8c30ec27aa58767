-- How the run of a script ends, and what that says of the bytes written and of the status.
use Rattle.std.specs.Prelude.{◌≡◌, ◌⊎◌, ◌+◌, ◌-◌, ◌^◌, ◌≤◌, min, ℕ, List, ◌∷◌, [], ◌++◌, Option}
use Rattle.std.specs.Io.KnownBytes.{Appends}
use Rattle.dr_lines.specs.Failures.{Stream}
use Rattle.dr_lines.specs.Lines.{most_reads, HasLines, BeginsWith, ReadsWhole}
use Rattle.dr_lines.specs.declared.line_error.LineError.TheVariants.{ReadFault}
use Rattle.dr_requests.specs.declared.command_error.CommandError.TheVariants.{Line}
use Rattle.dr_script.specs.Commands.{Answered, refused_by}
use Rattle.dr_script.specs.Script.{IsOpen, status_of, text_of}

-- what lines may be answered with
abbrev pub Answering : Type 1
Answering = List (List ℕ) → List Answered → Type 0

-- all lines that were left to read are answered
pub record AnswersAll (Fits : Answering) (left : Option (List ℕ)) (text : List ℕ) (status : ℕ) : Type 0 where
  pub lines : List (List ℕ)
  pub made : List Answered
  pub read : HasLines left lines
  pub fits : Fits lines made
  pub written : text ≡ text_of made
  pub told : status ≡ status_of made

-- the first of the lines that were left to read are answered
pub record AnswersFirst (Fits : Answering) (left : Option (List ℕ)) (text : List ℕ) : Type 0 where
  pub lines : List (List ℕ)
  pub made : List Answered
  pub read : BeginsWith left lines
  pub fits : Fits lines made
  pub written : text ≡ text_of made

-- the lines that were read whole are answered, and then `refused 99 ReadFault` is told
pub record AnswersWhole (Fits : Answering) (left rest : Option (List ℕ)) (text : List ℕ) : Type 0 where
  pub lines : List (List ℕ)
  pub made : List Answered
  pub read : ReadsWhole left rest lines
  pub fits : Fits lines made
  pub written : text ≡ text_of (made ++ refused_by (Line ReadFault) ∷ [])

-- reading came to its end: of the input or of the script, and no read failed; or by a failure
abbrev pub Ends : (All Whole : Answering) (no_failure failure : Type 0) (left rest : Option (List ℕ)) → List ℕ → ℕ → Type 0
Ends All Whole no_failure failure left rest text status =
    (AnswersAll All left text status × no_failure) ⊎ (AnswersWhole Whole left rest text × (status ≡ 1) × failure)

-- reading was broken off, or came to its end by a failure
abbrev pub BreaksOff : (All Whole : Answering) (no_failure failure : Type 0) (left rest : Option (List ℕ)) → List ℕ → Type 0
BreaksOff All Whole no_failure failure left rest text = (AnswersFirst All left text × no_failure) ⊎ (AnswersWhole Whole left rest text × failure)

-- one more call failed, as far as the count goes
abbrev pub OneMore : ℕ → ℕ → Type 0
OneMore old new = new ≡ min (old + 1) (2 ^ 64 - 1)

-- as many reads were made as there may be, as far as the count goes
abbrev pub AllReads : ℕ → ℕ → Type 0
AllReads old new = (old + most_reads ≤ new) ⊎ (2 ^ 64 - 1 ≤ new)

-- no read failed
abbrev pub ReadingHolds : Stream → Stream → Type 0
ReadingHolds old new = new.failures ≡ old.failures

-- a read failed, or the bound of reads was met
abbrev pub ReadingFails : Stream → Stream → Type 0
ReadingFails old new = OneMore old.failures new.failures ⊎ ((new.failures ≡ old.failures) × AllReads old.reads new.reads)

-- the script isn't ended by its first line
abbrev pub WhereOpen : Answering → Answering
WhereOpen Fits lines made = Fits lines made × IsOpen made

-- what a run wrote behind what the writer held: the whole text where no write failed, and else a beginning of it, with status 1
abbrev pub RunsScript : Answering → (reader reader_after writer writer_after : Stream) → ℕ → Type 0
RunsScript Fits reader reader_after writer writer_after status = (written : List ℕ) × Appends writer.bytes writer_after.bytes written
    × (((writer_after.failures ≡ writer.failures)
    × Ends Fits (WhereOpen Fits) (ReadingHolds reader reader_after) (ReadingFails reader reader_after) reader.bytes reader_after.bytes written status)
    ⊎ (OneMore writer.failures writer_after.failures × (status ≡ 1)
    × ((lost : List ℕ) × BreaksOff Fits (WhereOpen Fits) (ReadingHolds reader reader_after) (ReadingFails reader reader_after) reader.bytes reader_after.bytes (written ++ lost))))
