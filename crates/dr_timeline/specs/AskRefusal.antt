-- The numbers and names of the refusals of an answer by several workers.
use Rattle.std.specs.Prelude.{ℕ, List, Bool, true, Result, codes}
use Rattle.dr_answers.specs.AnswerRefusal as answer
use Rattle.dr_answers.specs.declared.answer_error.AnswerError.{AnswerError}
use Rattle.dr_answers.specs.declared.answer_error.AnswerError.TheVariants as no_answer
use Rattle.dr_base.specs.Reading.{GivesUnless, passed}
use Rattle.dr_scatter.specs.declared.scatter_error.ScatterError.{ScatterError}
use Rattle.dr_scatter.specs.declared.scatter_error.ScatterError.TheVariants as scatter
use Rattle.dr_timeline.specs.declared.ask_error.AskError.{AskError}
use Rattle.dr_timeline.specs.declared.ask_error.AskError.TheVariants.{Answer, WorkerNotStarted}

abbrev pub number_of : AskError → ℕ
number_of (Answer e) = answer.number_of e
number_of WorkerNotStarted = 80

abbrev pub name_of : AskError → List ℕ
name_of (Answer e) = answer.name_of e
name_of WorkerNotStarted = codes "WorkerNotStarted"

-- memory ran out, or a thread was refused
abbrev pub is_lack : AskError → Bool
is_lack (Answer e) = answer.is_memory e
is_lack WorkerNotStarted = true

-- no thread was refused
abbrev pub HasThreads : AskError → Type 0
HasThreads (Answer e) = Unit {0}
HasThreads WorkerNotStarted = ⊥

-- what workers refused
abbrev pub scattered : ScatterError → AskError
scattered scatter.NoMemory = Answer no_answer.NoMemory
scattered scatter.WorkerNotStarted = WorkerNotStarted

-- what a function returned, seen by view, is this answer, unless memory ran out or a thread was refused
abbrev pub AnswersUnless : {X Y : Type 0} → (X → Y) → Result X AskError → Result Y AnswerError → Type 0
AnswersUnless view result reading = GivesUnless is_lack view result (passed Answer reading)
