-- The numbers and names of the refusals of an answer.
use Rattle.std.specs.Prelude.{ℕ, List, Bool, true, false, Result, codes}
use Rattle.dr_answers.specs.declared.answer_error.AnswerError.{AnswerError}
use Rattle.dr_answers.specs.declared.answer_error.AnswerError.TheVariants.{NoMemory, ResultTooLarge}
use Rattle.dr_base.specs.Reading.{GivesUnless}

abbrev pub number_of : AnswerError → ℕ
number_of NoMemory = 0
number_of ResultTooLarge = 81

abbrev pub name_of : AnswerError → List ℕ
name_of NoMemory = codes "NoMemory"
name_of ResultTooLarge = codes "ResultTooLarge"

abbrev pub is_memory : AnswerError → Bool
is_memory NoMemory = true
is_memory ResultTooLarge = false

-- what a function returned, seen by view, is this answer, unless memory ran out
abbrev pub Answers : {X Y : Type 0} → (X → Y) → Result X AnswerError → Result Y AnswerError → Type 0
Answers view result answer = GivesUnless is_memory view result answer
