-- The answer to a query from its partial result. No public contract cites this file.
use Rattle.std.specs.Prelude.{ℕ, ℤ, List, Option, Result, Ok}
use Rattle.dr_base.specs.Reading.{◌>>=◌}
use Rattle.dr_base.specs.declared.row.Row.{Row}
use Rattle.dr_ask.specs.Asked.{Asked}
use Rattle.dr_answers.specs.declared.answer_error.AnswerError.{AnswerError}
use Rattle.dr_answers.specs.Answer.{text_of}
use Rattle.dr_finish.specs.Finished.{finished}

-- from the span of all rows, and the groups of the selected ones
unfoldable pub answer_from : Asked → Option (ℤ × ℤ) → List Row → Result (List ℕ) AnswerError
answer_from q span partial = do
  groups ← finished q span partial
  Ok (text_of q groups)
