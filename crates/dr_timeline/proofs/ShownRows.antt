-- The rows that a snapshot holds: their times, their span, and their answer to a matching query.
use Rattle.std.proofs.Common.{◌≡◌, ◌∙◌, sym, ap, subst, true, ℤ, List, map, Option}
use Rattle.dr_base.specs.declared.event.Event.{Event}
use Rattle.dr_base.specs.declared.row.Row.{Row}
use Rattle.dr_agg.specs.Rollup.{all_rows}
use Rattle.dr_schema.specs.declared.schema.Schema.{Schema}
use Rattle.dr_rollup.specs.Unrolled.{unrolled}
use Rattle.dr_ask.specs.Asked.{Asked}
use Rattle.dr_ask.specs.MadeFor.{MadeFor}
use Rattle.dr_ask.specs.Matching.{is_matching}
use Rattle.dr_ask.specs.Once.{once}
use Rattle.dr_answers.specs.Answer.{answer}
use Rattle.dr_answers.specs.Span.{span}
use Rattle.dr_cuts.specs.declared.range_info.RangeInfo.{RangeInfo}
use Rattle.dr_cuts.specs.RawAnswer.{raw_answer}
use Rattle.dr_cuts.specs.Segments.{rows_over}
use Rattle.dr_cuts.proofs.CutRows.{cut_rows}
use Rattle.dr_cuts.proofs.Matching.{answer-cut_rows}
use Rattle.dr_partial.specs.Partial.{partial}
use Rattle.dr_timeline.specs.Answering.{answer_from}
use Rattle.dr_timeline.specs.Shown.{Shows}
use Rattle.dr_timeline.proofs.PartialAnswers.{answer-partial}
use Rattle.dr_timeline.proofs.Pinning.{held-rows}
use Rattle.dr_timeline.proofs.Times.{AtInstants, times-cut_rows, span-cut_rows}

module _ (schema : Schema) (es : List Event) (held : List (List Row)) (ranges : List RangeInfo) (shows : Shows schema es held ranges) where
  held-cuts : all_rows held ≡ cut_rows schema es shows.cuts
  held-cuts = held-rows schema es held ranges shows.rows ∙ ap (rows_over schema es) shows.ranges_are

  pub times-shown : AtInstants (all_rows held)
  times-shown = subst AtInstants (sym held-cuts) (times-cut_rows schema es shows.cuts shows.are_cuts shows.fit)

  pub span-shown : span (all_rows held) ≡ span (map (unrolled schema) es)
  span-shown = ap span held-cuts ∙ span-cut_rows schema es shows.cuts shows.are_cuts

  pub answer-shown : (q : Asked) → MadeFor schema q → is_matching q ≡ true → answer q (all_rows held) ≡ raw_answer schema q es
  answer-shown q made matches = ap (answer q) held-cuts ∙ answer-cut_rows schema q es shows.cuts shows.are_cuts made matches

  -- the answer from the groups over these rows and the span of the events
  pub answer-own : (q : Asked) (found : Option (ℤ × ℤ)) (groups : List Row) → found ≡ span (map (unrolled schema) es) → groups ≡ partial (once q) (all_rows held) → answer_from q found groups ≡ answer q (rows_over schema es ranges)
  answer-own q found groups spans made =
      (λ i. answer_from q ((spans ∙ sym span-shown) i) (made i)) ∙ sym (answer-partial q (all_rows held)) ∙ ap (answer q) (held-rows schema es held ranges shows.rows)

  pub answer-raw : (q : Asked) (found : Option (ℤ × ℤ)) (groups : List Row) → found ≡ span (map (unrolled schema) es) → groups ≡ partial (once q) (all_rows held) → MadeFor schema q → is_matching q ≡ true
      → answer_from q found groups ≡ raw_answer schema q es
  answer-raw q found groups spans made for_schema matches =
      (λ i. answer_from q ((spans ∙ sym span-shown) i) (made i)) ∙ sym (answer-partial q (all_rows held)) ∙ answer-shown q for_schema matches
