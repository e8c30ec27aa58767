use Rattle.std.proofs.Common.{◌≡◌, ◌+◌, drop}
use Rattle.dr_ask.specs.Firsts.{number_in, is_same_aggregation}
use Rattle.dr_ask.proofs.aggregations.number_in.Given as goal

abbrev pub invariant-loop-number : goal.invariant-loop-number
invariant-loop-number l = number_in is_same_aggregation l.distinct l.aggregation ≡ l.number + number_in is_same_aggregation (drop l.number l.distinct) l.aggregation
