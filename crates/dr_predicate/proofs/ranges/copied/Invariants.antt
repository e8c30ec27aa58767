use Rattle.std.proofs.Common.{◌≡◌, take}
use Rattle.dr_predicate.proofs.ranges.copied.Given as goal

abbrev pub invariant-loop-one : goal.invariant-loop-one
invariant-loop-one l = l.copy.items ≡ take l.one-index l.bounds
