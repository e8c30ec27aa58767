use Rattle.std.proofs.Common.{◌≡◌, ◌∙◌, sym, ap, rules, pos, FitsSigned}
use Rattle.std.specs.Int.{w64}
use Rattle.std.proofs.lemmas.Int.{to_z-of_z}
use Rattle.std.proofs.lemmas.Option.{get_or_from_slice_get}
use Rattle.dr_base.specs.declared.row.Row.{Row}
use Rattle.dr_image.specs.Table.{row_at}
use Rattle.dr_fragment.specs.Lying.{row_lying}
use Rattle.dr_fragment.proofs.ImageRows.{row_time}
use Rattle.dr_fragment.proofs.row_ref.RowRef.time.Goals as goal

pub returns-in-InImage : goal.returns-in-InImage
returns-in-InImage c =
    let is : c.args.self.now ≡ row_at c.in-InImage.view.now c.in-InImage.i = sym c.self.view_is ∙ ap row_lying c.in-InImage.is in
    let fits : FitsSigned w64 c.time.result = search rules in
    simp to_z-of_z
    (sym (get_or_from_slice_get c.in-InImage.view.now.times c.in-InImage.i c.time.result (pos 0) c.time.ensures) ∙ sym (row_time c.in-InImage.view.now c.in-InImage.i) ∙ sym (ap (λ (r : Row). r.key.time) is))
