use Rattle.std.proofs.Common.{◌≡◌, take}
use Rattle.dr_ask.specs.Outputs.{dimension_names}
use Rattle.dr_ask.proofs.dimensions.Dimensions.names.Given as goal

abbrev pub invariant-loop-dimension : goal.invariant-loop-dimension
invariant-loop-dimension l = l.names ≡ dimension_names (take l.dimension-index l.all)
