use Rattle.std.proofs.Common.{◌≡◌, drop}
use Rattle.dr_ask.specs.Outputs.{dimension_names}
use Rattle.dr_writer.specs.Outputs.{dim_at, with_places}
use Rattle.dr_writer.proofs.ordering.add_dimensions.Given as goal

-- with the names that are left
abbrev pub invariant-loop-i : goal.invariant-loop-i
invariant-loop-i l = with_places dim_at l.i l.places.entries (dimension_names (drop l.i l.dimensions)) ≡ with_places dim_at 0 l.initial.places.entries (dimension_names l.dimensions)
