-- An answer by several workers, from that by one.
use Rattle.std.proofs.Common.{◌≡◌, ap, Result, Ok}
use Rattle.std.proofs.Common.{true≢false}
use Rattle.dr_base.specs.Reading.{FailsUnless, passed}
use Rattle.dr_answers.specs.AnswerRefusal.{is_memory}
use Rattle.dr_answers.specs.declared.answer_error.AnswerError.{AnswerError}
use Rattle.dr_scatter.specs.declared.scatter_error.ScatterError.{ScatterError}
use Rattle.dr_scatter.specs.declared.scatter_error.ScatterError.TheVariants.{NoMemory, WorkerNotStarted}
use Rattle.dr_timeline.specs.declared.ask_error.AskError.TheVariants.{Answer}
use Rattle.dr_timeline.specs.AskRefusal.{is_lack, scattered}

-- whatever workers refuse, something was lacking
pub lacking : {Y : Type 0} (e : ScatterError) (reading : Result Y AnswerError) → FailsUnless is_lack (scattered e) (passed Answer reading)
lacking NoMemory reading = λ h. absurd (true≢false h)
lacking WorkerNotStarted reading = λ h. absurd (true≢false h)

pub given-too : {Y : Type 0} (reading : Result Y AnswerError) (y : Y) → reading ≡ Ok y → passed Answer reading ≡ Ok y
given-too reading y h = ap (passed Answer) h

pub failing-too : {Y : Type 0} (reading : Result Y AnswerError) (e : AnswerError) → FailsUnless is_memory e reading → FailsUnless is_lack (Answer e) (passed Answer reading)
failing-too reading e h = λ m. ap (passed Answer) (h m)
