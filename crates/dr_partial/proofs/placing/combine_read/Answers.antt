use Rattle.std.proofs.Common.{◌≡◌, ◌∙◌, ◌<◌, sym, rules, FitsSigned, w64, get_or, pos, length, map, subst, List, ◌∷◌, []}
use Rattle.std.proofs.lemmas.Int.{to_z-of_z}
use Rattle.std.proofs.lemmas.List.{length-map, get_or-map}
use Rattle.dr_agg.specs.declared.kind.Kind.{Kind}
use Rattle.dr_agg.specs.declared.kind.Kind.TheVariants.{Count}
use Rattle.dr_agg.specs.Combination.{combine_of, combine_columns, fold_of}
use Rattle.dr_agg.proofs.SoFar.{IsSoFar-more}
use Rattle.dr_columns.specs.declared.values.Values.TheVariants.{Same}
use Rattle.dr_columns.specs.declared.reading.Reading.{Reading}
use Rattle.dr_columns.specs.Read.{read_at}
use Rattle.dr_partial.specs.Known.{folds_read}
use Rattle.dr_partial.proofs.placing.combine_read.Goals as goal

pub loop-place-preserved : goal.loop-place-preserved
loop-place-preserved c =
    let i = c.loop-place.place in
    let all = c.args.readings.now in
    let ks : List Kind = map (λ r. r.kind) all in
    let added = folds_read all c.args.i in
    let lt : i < length ks = subst (λ n. i < n) (sym (length-map all (λ x. x.kind))) c.loop-place-test.true in
    let fx : FitsSigned w64 (get_or c.as_slice.result.now i (pos 0)) = search rules in
    let fy : FitsSigned w64 c.alone.result = search rules in
    let fz : FitsSigned w64 c.combine-combined.result = search rules in
    let h0 = simp to_z-of_z at c.combine-combined.ensures in
    let h1 = c.alone.ensures in
    let h2 = simp to_z-of_z at c.set.ensures in
    let first : Reading = record { kind = Count; values = Same (pos 0) } in
    let r = get_or all i first in
    let there = c.loop-place-test.true in
    let kind : get_or ks i Count ≡ r.kind = get_or-map (λ (x : Reading). x.kind) all i first Count there in
    let at : get_or added i (pos 0) ≡ fold_of r.kind (read_at r c.args.i ∷ []) = get_or-map (λ (x : Reading). fold_of x.kind (read_at x c.args.i ∷ [])) all i first (pos 0) there in
    let value : c.combine-combined.result ≡ combine_of (get_or ks i Count) (get_or c.loop-place.values i (pos 0)) (get_or added i (pos 0)) =
    h0 ∙ (λ j. combine_of (sym kind j) (get_or (c.as_slice.ensures j) i (pos 0)) ((h1 ∙ sym at) j)) in
    rw h2 (IsSoFar-more ks c.loop-place.values added (combine_columns ks c.args.values.now added) i Count c.combine-combined.result lt value c.loop-place.invariant)
