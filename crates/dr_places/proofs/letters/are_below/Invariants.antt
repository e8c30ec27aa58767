use Rattle.std.proofs.Common.{◌<◌, ℕ, get_or}
use Rattle.dr_places.proofs.letters.are_below.Given as goal

abbrev pub invariant-loop-k : goal.invariant-loop-k
invariant-loop-k l = (j : ℕ) → j < l.k → get_or l.letters j 0 < l.bound
