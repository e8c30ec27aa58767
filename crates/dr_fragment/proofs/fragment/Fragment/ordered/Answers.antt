use Rattle.std.proofs.Common.{◌∙◌, sym, ap, subst}
use Rattle.dr_agg.specs.Rollup.{IsInOrder}
use Rattle.dr_fragment.specs.Held.{rows_held, IsHeld}
use Rattle.dr_fragment.specs.Ranged.{Ranged}
use Rattle.dr_fragment.proofs.InOrder.{image_in_order}
use Rattle.dr_fragment.proofs.fragment.Fragment.ordered.Goals as goal

pub returns-in-Image-clause-in_order : goal.returns-in-Image-clause-in_order
returns-in-Image-clause-in_order c =
    let f = c.self.inside in
    let image = subst (IsHeld f.chunk f.from f.to) c.in-Image.is c.self.invariant in
    let rows = sym (ap rows_held c.in-Image.is) ∙ ap (λ (r : Ranged). r.rows) c.self.view_is in
    subst IsInOrder rows (image_in_order c.in-Image.bytes.items image.image)
