use Rattle.std.proofs.Common.{◌≡◌, ◌≤◌, ◌<◌, ◌+◌, ℕ, false, drop}
use Rattle.dr_places.specs.Places.{begins}
use Rattle.dr_places.proofs.trying.first_left.Given as goal

abbrev pub invariant-loop-left : goal.invariant-loop-left
invariant-loop-left l = record {
  within : l.k ≤ l.count;
  before : (j : ℕ) → j < l.k → begins l.piece (drop (l.place + j) l.letters) ≡ false;
}

abbrev pub decreases-loop-left : goal.decreases-loop-left
decreases-loop-left l = l.left
