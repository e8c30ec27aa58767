use Rattle.std.proofs.Common.{◌≡◌, ◌∙◌, ap, ◌-◌, map, rules, FitsSigned, w64, to_z}
use Rattle.std.specs.List.{range_with_len}
use Rattle.std.proofs.lemmas.Int.{to_z-of_z}
use Rattle.dr_agg.specs.Combination.{combine_of, fold_of}
use Rattle.dr_columns.specs.Read.{read_at}
use Rattle.dr_columns.proofs.RunLemmas.{fold-more}
use Rattle.dr_columns.proofs.reading.Reading.fold_each.Goals as goal

pub loop-i-preserved : goal.loop-i-preserved
loop-i-preserved c =
    let r = c.args.self.now in
    let read : FitsSigned w64 c.at.result = search rules in
    let next : FitsSigned w64 c.combine-folded.result = search rules in
    let value : c.combine-folded.result ≡ combine_of r.kind (to_z w64 c.loop-i.folded-bits) (read_at r c.loop-i.i) =
    c.combine-folded.ensures ∙ ap (combine_of r.kind (to_z w64 c.loop-i.folded-bits)) (to_z-of_z w64 c.at.result read ∙ c.at.ensures) in
    fold-more r.kind (read_at r) (to_z w64 c.loop-i.folded-bits) _ c.loop-i.i c.args.to (fold_of r.kind (map (read_at r) (range_with_len c.args.from (c.args.to - c.args.from)))) c.loop-i-test.true
    (to_z-of_z w64 c.combine-folded.result next ∙ value) c.loop-i.invariant
