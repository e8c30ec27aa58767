use Rattle.std.proofs.Common.{◌≡◌, ◌+◌, ◌/◌, replicate}
use Rattle.dr_places.proofs.digits.empty_sets.Given as goal

abbrev pub invariant-loop : goal.invariant-loop
invariant-loop l = l.sets.items ≡ replicate l.counter (replicate (l.places / 64 + 2) 0)
