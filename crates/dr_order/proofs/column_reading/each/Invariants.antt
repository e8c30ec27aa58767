use Rattle.std.proofs.Common.{◌≡◌, drop}
use Rattle.serde_json.specs.View.{items_view}
use Rattle.dr_order.specs.ColumnOf.{column_of}
use Rattle.dr_base.specs.Each.{each_from, each}
use Rattle.dr_order.proofs.column_reading.each.Given as goal

abbrev pub invariant-loop-value : goal.invariant-loop-value
invariant-loop-value l =
    each_from (column_of l.dimensions l.aggregations) l.columns (items_view (drop l.value-index l.values)) ≡ each (column_of l.dimensions l.aggregations) (items_view l.values)
