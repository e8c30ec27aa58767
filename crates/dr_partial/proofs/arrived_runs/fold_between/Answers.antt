use Rattle.std.proofs.Common.{◌≡◌, ◌∙◌, ap, rules, FitsSigned, w64, to_z}
use Rattle.std.proofs.lemmas.Int.{to_z-of_z}
use Rattle.dr_base.specs.declared.row.Row.{Row}
use Rattle.dr_agg.specs.Combination.{combine_of}
use Rattle.dr_answers.specs.Fold.{reading_in}
use Rattle.dr_partial.proofs.Pieces.{read_bare}
use Rattle.dr_partial.proofs.Runs.{fold-next}
use Rattle.dr_partial.proofs.arrived_runs.fold_between.Goals as goal

pub loop-i-preserved : goal.loop-i-preserved
loop-i-preserved c =
    let a = c.args.aggregation.now in
    let rows = c.args.rows.now in
    let i = c.loop-i.i in
    let r : Row = record { key = record { time = c.row.result.0; dims = c.row.result.1.now }; metrics = c.row.result.2.now } in
    let g : FitsSigned w64 c.value_read.result = search rules in
    let h = simp to_z-of_z at c.combine-folded.ensures in
    let read = c.value_read.ensures ∙ read_bare a.kind a.column r in
    let value : c.combine-folded.result ≡ combine_of a.kind (to_z w64 c.loop-i.folded-bits) (reading_in a.kind a.column r) = h ∙ ap (combine_of a.kind (to_z w64 c.loop-i.folded-bits)) read in
    let lt = c.loop-i-test.true in
    let k : FitsSigned w64 c.combine-folded.result = search rules in
    rw (to_z-of_z w64 c.combine-folded.result k) (fold-next a.kind (reading_in a.kind a.column) rows _ c.combine-folded.result _ i c.args.to r lt c.requires.within c.row.ensures value c.loop-i.invariant)
