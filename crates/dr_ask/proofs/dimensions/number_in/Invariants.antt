use Rattle.std.proofs.Common.{◌≡◌, ◌+◌, drop}
use Rattle.dr_ask.specs.Firsts.{number_in, is_same_dimension}
use Rattle.dr_ask.proofs.dimensions.number_in.Given as goal

abbrev pub invariant-loop-number : goal.invariant-loop-number
invariant-loop-number l = number_in is_same_dimension l.distinct l.dimension ≡ l.number + number_in is_same_dimension (drop l.number l.distinct) l.dimension
