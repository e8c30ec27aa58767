use Rattle.std.proofs.Common.{subst, rules, FitsSigned, refl}
use Rattle.std.specs.Int.{w64}
use Rattle.std.proofs.lemmas.Int.{to_z-of_z}
use Rattle.dr_fragment.specs.Held.{IsImageAt}
use Rattle.dr_fragment.proofs.Images.{range_opens, range_of_sealed}
use Rattle.dr_fragment.proofs.fragment.Fragment.of_known_image.Goals as goal

pub returns-clause-value : goal.returns-clause-value
returns-clause-value c =
    let r = c.range_of_image-chunk.result in
    let fits : FitsSigned w64 r.0 = search rules in
    let at = subst (IsImageAt r.0 r.1 r.2) c.deref.ensures.value c.range_of_image-chunk.ensures in
    simp to_z-of_z (range_opens c.args.bytes.items r.0 r.1 r.2 _ at refl)

pub returns-clause-rows : goal.returns-clause-rows
returns-clause-rows c =
    let r = c.range_of_image-chunk.result in
    let fits : FitsSigned w64 r.0 = search rules in
    let at = subst (IsImageAt r.0 r.1 r.2) c.deref.ensures.value c.range_of_image-chunk.ensures in
    λ s of. simp to_z-of_z (range_of_sealed c.args.bytes.items r.0 r.1 r.2 _ at refl s of)
