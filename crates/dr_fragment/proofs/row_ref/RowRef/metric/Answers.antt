use Rattle.std.proofs.Common.{◌≡◌, ◌∙◌, sym, ap, subst, rules, ◌<◌, [], pos, length, get_or, FitsSigned}
use Rattle.std.specs.Int.{w64}
use Rattle.std.proofs.lemmas.Int.{to_z-of_z}
use Rattle.std.proofs.lemmas.Option.{get_or_from_slice_get}
use Rattle.dr_base.specs.declared.row.Row.{Row}
use Rattle.dr_image.specs.Table.{row_at}
use Rattle.dr_fragment.specs.Lying.{row_lying}
use Rattle.dr_fragment.proofs.ImageRows.{row_metric_count, row_metric}
use Rattle.dr_fragment.proofs.row_ref.RowRef.metric.Goals as goal

pub metric-requires-clause-metric : goal.metric-requires-clause-metric
metric-requires-clause-metric c =
    let is : c.args.self.now ≡ row_at c.in-InImage.view.now c.in-InImage.i = sym c.self.view_is ∙ ap row_lying c.in-InImage.is in
    subst (λ n. c.args.m < n) (ap (λ (r : Row). length r.metrics) is ∙ row_metric_count c.in-InImage.view.now c.in-InImage.i) c.requires

pub returns-in-InImage : goal.returns-in-InImage
returns-in-InImage c =
    let is : c.args.self.now ≡ row_at c.in-InImage.view.now c.in-InImage.i = sym c.self.view_is ∙ ap row_lying c.in-InImage.is in
    let there : c.args.m < length c.in-InImage.view.now.metrics = subst (λ n. c.args.m < n) (ap (λ (r : Row). length r.metrics) is ∙ row_metric_count c.in-InImage.view.now c.in-InImage.i) c.requires in
    let fits : FitsSigned w64 c.metric.result = search rules in
    simp to_z-of_z
    (sym (get_or_from_slice_get (get_or c.in-InImage.view.now.metrics c.args.m []) c.in-InImage.i c.metric.result (pos 0) c.metric.ensures)
    ∙ sym (row_metric c.in-InImage.view.now c.in-InImage.i c.args.m there) ∙ sym (ap (λ (r : Row). get_or r.metrics c.args.m (pos 0)) is))
