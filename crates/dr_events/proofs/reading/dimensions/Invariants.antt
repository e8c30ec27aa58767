use Rattle.dr_events.specs.declared.unparseable.Unparseable.TheVariants.{BadDimension}
use Rattle.dr_events.specs.DimensionValue.{dimension_value}
use Rattle.dr_events.specs.Scalars.{value_at, dims_seen}
use Rattle.dr_events.proofs.EachColumn.{AreSoFar}
use Rattle.dr_events.proofs.reading.dimensions.Given as goal

abbrev pub invariant-loop-column : goal.invariant-loop-column
invariant-loop-column l = AreSoFar (λ place. dimension_value (value_at l.found place)) BadDimension l.dims.items l.places l.column (dims_seen l.places l.found)
