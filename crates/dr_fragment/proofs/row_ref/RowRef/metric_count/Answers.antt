use Rattle.std.proofs.Common.{◌≡◌, ◌∙◌, sym, ap, length}
use Rattle.dr_base.specs.declared.row.Row.{Row}
use Rattle.dr_image.specs.Table.{row_at}
use Rattle.dr_fragment.specs.Lying.{row_lying}
use Rattle.dr_fragment.proofs.ImageRows.{row_metric_count}
use Rattle.dr_fragment.proofs.row_ref.RowRef.metric_count.Goals as goal

pub returns-in-InImage : goal.returns-in-InImage
returns-in-InImage c =
    let is : c.args.self.now ≡ row_at c.in-InImage.view.now c.in-InImage.field-1 = sym c.self.view_is ∙ ap row_lying c.in-InImage.is in
    c.metric_count.ensures ∙ sym (row_metric_count c.in-InImage.view.now c.in-InImage.field-1) ∙ sym (ap (λ (r : Row). length r.metrics) is)
