use Rattle.std.proofs.Common.{◌≡◌, ◌≤◌, ◌<◌, ◌-◌, ℕ, false, drop}
use Rattle.dr_places.specs.Places.{begins}
use Rattle.dr_places.proofs.by_letters.behind_piece.Given as goal

abbrev pub invariant-loop-at : goal.invariant-loop-at
invariant-loop-at l = record {
  begun : l.from ≤ l.at;
  within : l.at ≤ l.end;
  before : (o : ℕ) → l.from ≤ o → o < l.at → begins l.piece (drop o l.text) ≡ false;
}

abbrev pub decreases-loop-at : goal.decreases-loop-at
decreases-loop-at l = l.end - l.at
