use Rattle.std.proofs.Common.{◌≡◌, ◌∙◌, sym, ap, subst, ◌<◌, [], length, get_or}
use Rattle.dr_base.specs.declared.row.Row.{Row}
use Rattle.dr_image.specs.Table.{row_at}
use Rattle.dr_fragment.specs.Lying.{row_lying}
use Rattle.dr_fragment.proofs.ImageRows.{row_dim_count, row_dim}
use Rattle.dr_fragment.proofs.row_ref.RowRef.dim.Goals as goal

pub dim-requires-clause-dimension : goal.dim-requires-clause-dimension
dim-requires-clause-dimension c =
    let is : c.args.self.now ≡ row_at c.in-InImage.view.now c.in-InImage.i = sym c.self.view_is ∙ ap row_lying c.in-InImage.is in
    subst (λ n. c.args.d < n) (ap (λ (r : Row). length r.key.dims) is ∙ row_dim_count c.in-InImage.view.now c.in-InImage.i) c.requires

pub returns-in-InImage : goal.returns-in-InImage
returns-in-InImage c =
    let is : c.args.self.now ≡ row_at c.in-InImage.view.now c.in-InImage.i = sym c.self.view_is ∙ ap row_lying c.in-InImage.is in
    let there : c.args.d < length c.in-InImage.view.now.dims = subst (λ n. c.args.d < n) (ap (λ (r : Row). length r.key.dims) is ∙ row_dim_count c.in-InImage.view.now c.in-InImage.i) c.requires in
    c.dim.ensures ∙ sym (row_dim c.in-InImage.view.now c.in-InImage.i c.args.d there) ∙ sym (ap (λ (r : Row). get_or r.key.dims c.args.d []) is)
