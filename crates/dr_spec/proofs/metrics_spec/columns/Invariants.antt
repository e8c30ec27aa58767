use Rattle.std.proofs.Common.{◌≡◌, drop}
use Rattle.serde_json.specs.View.{items_view}
use Rattle.dr_base.specs.Each.{each, each_from}
use Rattle.dr_spec.specs.MetricsSpec.{metric_of}
use Rattle.dr_spec.proofs.metrics_spec.columns.Given as goal

abbrev pub invariant-loop-item : goal.invariant-loop-item
invariant-loop-item l = each_from metric_of l.metrics (items_view (drop l.item-index l.items)) ≡ each metric_of (items_view l.items)
