use Rattle.std.proofs.Common.{sym, subst, map, List, ℤ}
use Rattle.std.proofs.lemmas.List.{length-map}
use Rattle.dr_segment.specs.Columns.{AddsRow}
use Rattle.dr_segment.proofs.GatheringLemmas.{values_more}
use Rattle.dr_segment.proofs.gathering.metrics_of.Goals as goal

pub loop-row-preserved : goal.loop-row-preserved
loop-row-preserved c =
    let old : List (List ℤ) = map (λ v. v.items) c.loop-row.metrics.items in
    values_more c.args.count c.loop-row.row-index c.args.rows.now c.row-item.result old _ c.loop-row.invariant
    (subst (λ n. AddsRow old (map (λ v. v.items) c.add_values.new.metrics.items) c.row-item.result.metrics n) (sym (length-map c.loop-row.metrics.items (λ v. v.items))) c.in_ok-add_values.ensures) c.loop-row-test.true c.row-item.is
