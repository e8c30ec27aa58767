use Rattle.std.proofs.Common.{◌≡◌, take}
use Rattle.dr_ask.specs.Outputs.{aggregation_names}
use Rattle.dr_ask.proofs.aggregations.Aggregations.names.Given as goal

abbrev pub invariant-loop-aggregation : goal.invariant-loop-aggregation
invariant-loop-aggregation l = l.names ≡ aggregation_names (take l.aggregation-index l.all)
