use Rattle.std.proofs.Common.{◌≡◌, drop}
use Rattle.serde_json.specs.View.{items_view}
use Rattle.dr_ask.specs.AggregationsOf.{aggregation_of}
use Rattle.dr_base.specs.Each.{each_from, each}
use Rattle.dr_ask.proofs.aggregation_reading.each.Given as goal

abbrev pub invariant-loop-value : goal.invariant-loop-value
invariant-loop-value l =
    each_from (aggregation_of l.schema) l.aggregations (items_view (drop l.value-index l.values)) ≡ each (aggregation_of l.schema) (items_view l.values)
