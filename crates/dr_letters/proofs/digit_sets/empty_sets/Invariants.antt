use Rattle.std.proofs.Common.{◌≡◌, false, replicate}
use Rattle.dr_letters.proofs.digit_sets.empty_sets.Given as goal

abbrev pub invariant-loop : goal.invariant-loop
invariant-loop l = l.sets.items ≡ replicate l.counter (replicate l.count false)
