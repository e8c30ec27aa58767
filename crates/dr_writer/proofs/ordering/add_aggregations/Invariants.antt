use Rattle.std.proofs.Common.{◌≡◌, drop}
use Rattle.dr_ask.specs.Outputs.{aggregation_names}
use Rattle.dr_writer.specs.Outputs.{value_at, with_places}
use Rattle.dr_writer.proofs.ordering.add_aggregations.Given as goal

-- with the names that are left
abbrev pub invariant-loop-i : goal.invariant-loop-i
invariant-loop-i l = with_places value_at l.i l.places.entries (aggregation_names (drop l.i l.aggregations)) ≡ with_places value_at 0 l.initial.places.entries (aggregation_names l.aggregations)
