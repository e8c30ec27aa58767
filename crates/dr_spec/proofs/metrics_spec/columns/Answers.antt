use Rattle.std.proofs.lemmas.Result.{err_from_is_err_and}
use Rattle.serde_json.specs.View.{items_view}
use Rattle.dr_base.specs.Each.{each}
use Rattle.dr_spec.specs.MetricsSpec.{metric_of}
use Rattle.dr_spec.specs.Refusal.{is_memory}
use Rattle.dr_base.proofs.ItemsInTurn.{each_from-goes_on, each_from-stops, each_from-ends}
use Rattle.dr_spec.proofs.metrics_spec.columns.Goals as goal

pub returns-in_err-metric : goal.returns-in_err-metric
returns-in_err-metric c =
    let p = err_from_is_err_and c.from_residual.result c.from_residual.ensures.1 in
    rw (p.1, p.2) (each_from-stops is_memory metric_of c.loop-item.metrics c.args.items.now c.loop-item.item-index c.item-item.result c.in_err-metric.field-0.0 (each metric_of (items_view c.args.items.now)) c.loop-item-test.true c.item-item.is c.loop-item.invariant c.in_err-metric.ensures)

pub returns : goal.returns
returns c = each_from-ends metric_of c.loop-item.metrics c.args.items.now c.loop-item.item-index (each metric_of (items_view c.args.items.now)) c.loop-item-test.false c.loop-item.invariant

pub loop-item-preserved : goal.loop-item-preserved
loop-item-preserved c =
    rw c.in_ok-push.ensures.ok (each_from-goes_on metric_of c.loop-item.metrics c.args.items.now c.loop-item.item-index c.item-item.result c.in_ok-metric.field-0 (each metric_of (items_view c.args.items.now)) c.loop-item-test.true c.item-item.is c.in_ok-metric.ensures c.loop-item.invariant)
