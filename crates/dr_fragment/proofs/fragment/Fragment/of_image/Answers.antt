use Rattle.std.proofs.Common.{sym, subst, rules, FitsSigned, refl}
use Rattle.std.specs.Int.{w64}
use Rattle.std.proofs.lemmas.Int.{to_z-of_z}
use Rattle.dr_fragment.specs.Held.{IsImageAt}
use Rattle.dr_fragment.proofs.Images.{range_opens}
use Rattle.dr_fragment.proofs.fragment.Fragment.of_image.Goals as goal

pub returns : goal.returns
returns c =
    let r = c.in_ok-chunk in
    let fits : FitsSigned w64 r.chunk = search rules in
    let at = subst (IsImageAt r.chunk r.from r.to) c.deref.ensures.value r.ensures in
    simp to_z-of_z (sym (range_opens c.args.bytes.items r.chunk r.from r.to _ at refl))
