-- The answer to a query over raw events, one by one.
use Rattle.std.specs.Prelude.{ℕ, List, Result, map}
use Rattle.dr_base.specs.declared.event.Event.{Event}
use Rattle.dr_schema.specs.declared.schema.Schema.{Schema}
use Rattle.dr_rollup.specs.Unrolled.{unrolled}
use Rattle.dr_ask.specs.Asked.{Asked}
use Rattle.dr_answers.specs.declared.answer_error.AnswerError.{AnswerError}
use Rattle.dr_answers.specs.Answer.{answer}

-- the answer over the events, each as a row of its own: truncated, filtered, grouped and folded one by one
abbrev pub raw_answer : Schema → Asked → List Event → Result (List ℕ) AnswerError
raw_answer schema q es = answer q (map (unrolled schema) es)
