use Rattle.std.proofs.Common.{◌≡◌, ◌++◌, take}
use Rattle.dr_ask.proofs.column_reading.add_dimensions.Given as goal

abbrev pub invariant-loop-dimension : goal.invariant-loop-dimension
invariant-loop-dimension l = l.names ≡ l.initial.names ++ take l.dimension-index l.dimensions
