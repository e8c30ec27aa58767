use Rattle.std.proofs.Common.{◌≡◌, drop}
use Rattle.serde_json.specs.View.{items_view}
use Rattle.dr_filter.specs.Values.{distinct_from, distinct_values}
use Rattle.dr_filter.proofs.values.distinct_values.Given as goal

abbrev pub invariant-loop-value : goal.invariant-loop-value
invariant-loop-value l = distinct_from l.texts (items_view (drop l.value-index l.values)) ≡ distinct_values (items_view l.values)
