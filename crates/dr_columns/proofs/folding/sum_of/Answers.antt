use Rattle.std.proofs.Common.{◌≡◌, ◌∙◌, ap, map, get_or, [], rules, FitsSigned, w64, to_z}
use Rattle.std.proofs.lemmas.Int.{to_z-of_z}
use Rattle.dr_agg.specs.declared.kind.Kind.TheVariants.{LongSum}
use Rattle.dr_agg.specs.Combination.{combine_of, fold_of}
use Rattle.dr_image.specs.Words.{long}
use Rattle.dr_columns.proofs.RunLemmas.{cells-more}
use Rattle.dr_columns.proofs.folding.sum_of.Goals as goal

pub loop-cell-preserved : goal.loop-cell-preserved
loop-cell-preserved c =
    let cells = c.args.cells.now in
    let read : FitsSigned w64 c.signed.result = search rules in
    let next : FitsSigned w64 c.combine-sum.result = search rules in
    let value : c.combine-sum.result ≡ combine_of LongSum (to_z w64 c.loop-cell.sum-bits) (long (get_or cells c.loop-cell.cell-index [])) =
    c.combine-sum.ensures ∙ ap (combine_of LongSum (to_z w64 c.loop-cell.sum-bits)) (to_z-of_z w64 c.signed.result read ∙ c.signed.ensures) in
    cells-more LongSum cells (to_z w64 c.loop-cell.sum-bits) _ (fold_of LongSum (map long cells)) c.loop-cell.cell-index c.loop-cell-test.true (to_z-of_z w64 c.combine-sum.result next ∙ value) c.loop-cell.invariant
