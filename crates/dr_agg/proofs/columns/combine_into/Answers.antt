use Rattle.std.proofs.Common.{◌≡◌, ◌∙◌, ap, rules, FitsSigned, w64, get_or, pos}
use Rattle.std.proofs.lemmas.Int.{to_z-of_z}
use Rattle.std.proofs.lemmas.Option.{unwrap_or-slice_get}
use Rattle.dr_agg.specs.declared.kind.Kind.TheVariants.{Count}
use Rattle.dr_agg.specs.Combination.{combine_columns}
use Rattle.dr_agg.proofs.SoFar.{IsSoFar-more, IsSoFar-all, combine_columns-fitted}
use Rattle.dr_agg.proofs.columns.combine_into.Goals as goal

pub loop-place-preserved : goal.loop-place-preserved
loop-place-preserved c =
    let fx : FitsSigned w64 (get_or c.as_slice.result.now c.loop-place.place (pos 0)) = search rules in
    let fy : FitsSigned w64 c.unwrap_or-value.result = search rules in
    let fz : FitsSigned w64 c.combine-combined.result = search rules in
    let value : c.unwrap_or-value.result ≡ get_or c.args.from.now c.loop-place.place (pos 0) = rw (c.unwrap_or-value.ensures, c.get.ensures) (unwrap_or-slice_get c.args.from.now c.loop-place.place (pos 0)) in
    let h0 = simp to_z-of_z at c.combine-combined.ensures in
    let h1 = rw (c.as_slice.ensures, value) at h0 in
    let h2 = simp to_z-of_z at c.set.ensures in
    rw h2 (IsSoFar-more c.args.kinds.now c.loop-place.into c.args.from.now (combine_columns c.args.kinds.now c.fit.new.values c.args.from.now) c.loop-place.place Count c.combine-combined.result c.loop-place-test.true h1 c.loop-place.invariant)

pub returns-clause-ok : goal.returns-clause-ok
returns-clause-ok c =
    IsSoFar-all c.args.kinds.now c.loop-place.into c.args.from.now _ c.loop-place.place c.loop-place-test.false c.loop-place.invariant
    ∙ ap (λ xs. combine_columns c.args.kinds.now xs c.args.from.now) c.in_ok-fit.ensures.ok
    ∙ combine_columns-fitted c.args.kinds.now c.args.into.now c.args.from.now
