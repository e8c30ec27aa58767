-- The answer over rows is that from their span and the partial result of the query that asks each dimension and each aggregation once.
use Rattle.std.proofs.Common.{◌≡◌, ◌∙◌, ap, map, List, Ok}
use Rattle.dr_base.specs.Reading.{◌>>=◌}
use Rattle.dr_base.specs.declared.row.Row.{Row}
use Rattle.dr_ask.specs.Asked.{Asked}
use Rattle.dr_answers.specs.Answer.{answer, given_of, text_of}
use Rattle.dr_ask.specs.Once.{once}
use Rattle.dr_answers.specs.Span.{span}
use Rattle.dr_answers.specs.Spread.{spread}
use Rattle.dr_answers.proofs.OnceGroups.{groups-once}
use Rattle.dr_partial.proofs.Groups.{groups-from_partial}
use Rattle.dr_partial.specs.Partial.{partial}
use Rattle.dr_timeline.specs.Answering.{answer_from}

pub answer-partial : (q : Asked) (rows : List Row) → answer q rows ≡ answer_from q (span rows) (partial (once q) rows)
unfolding answer answer_from
answer-partial q rows = ap (λ g. given_of q g >>= (λ given. Ok (text_of q given))) (groups-once q rows ∙ ap (map (spread q)) (groups-from_partial (once q) rows))
