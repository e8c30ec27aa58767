use Rattle.std.proofs.Common.{◌≡◌, ◌∙◌, ◌<◌, sym, rules, FitsSigned, w64, get_or, pos, length, subst, List}
use Rattle.std.proofs.lemmas.Int.{to_z-of_z}
use Rattle.std.proofs.lemmas.List.{length-map}
use Rattle.dr_agg.specs.declared.kind.Kind.{Kind}
use Rattle.dr_agg.specs.declared.kind.Kind.TheVariants.{Count}
use Rattle.dr_agg.specs.Combination.{combine_of, combine_columns}
use Rattle.dr_agg.proofs.SoFar.{IsSoFar-more}
use Rattle.dr_partial.specs.Partial.{kinds_in}
use Rattle.dr_partial.proofs.Alone.{kind-at}
use Rattle.dr_partial.proofs.folds.combine_folds.Goals as goal

pub loop-place-preserved : goal.loop-place-preserved
loop-place-preserved c =
    let i = c.loop-place.place in
    let all = c.args.aggregations.now in
    let a = c.index-aggregations-place.result in
    let ks : List Kind = kinds_in all in
    let lt : i < length ks = subst (λ n. i < n) (sym (length-map all (λ x. x.kind))) c.loop-place-test.true in
    let kind : get_or ks i Count ≡ a.kind = kind-at all i Count a c.loop-place-test.true c.index-aggregations-place.is in
    let fx : FitsSigned w64 (get_or c.as_slice.result.now i (pos 0)) = search rules in
    let fy : FitsSigned w64 (get_or c.args.folds.now i (pos 0)) = search rules in
    let fz : FitsSigned w64 c.combine-combined.result = search rules in
    let h0 = simp to_z-of_z at c.combine-combined.ensures in
    let h2 = simp to_z-of_z at c.set.ensures in
    let value : c.combine-combined.result ≡ combine_of (get_or ks i Count) (get_or c.loop-place.values i (pos 0)) (get_or c.args.folds.now i (pos 0)) =
    rw kind (h0 ∙ (λ j. combine_of a.kind (get_or (c.as_slice.ensures j) i (pos 0)) (get_or c.args.folds.now i (pos 0)))) in
    rw h2 (IsSoFar-more ks c.loop-place.values c.args.folds.now (combine_columns ks c.args.values.now c.args.folds.now) i Count c.combine-combined.result lt value c.loop-place.invariant)
