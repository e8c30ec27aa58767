use Rattle.std.proofs.Common.{◌∙◌, sym, ap, subst, arith}
use Rattle.dr_image.specs.Opening.{framed, has_digest}
use Rattle.dr_image.proofs.SpellingLemmas.{AreBytes}
use Rattle.dr_image.proofs.LawLemmas.{opens_by}
use Rattle.dr_image.proofs.segment_view.SegmentView.open.Goals as goal

pub invariant_of-result : goal.invariant_of-result
invariant_of-result c =
    let same = c.in_ok-layout.ensures.bytes in
    opens_by c.in_ok-layout.layout.bytes.now _
    (subst AreBytes (sym same) (λ i. omega (arith, c.type_inv.bytes i)))
    (ap framed same ∙ sym c.in_ok-layout.ensures.framed)
    (ap has_digest same ∙ sym c.is_undamaged.ensures ∙ c.if-not-is_undamaged.false)
    (sym c.check_contents.ensures ∙ c.in_ok-check_contents.was)
