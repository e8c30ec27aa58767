use Rattle.std.proofs.Common.{◌≡◌, ◌≤◌, ◌<◌, ◌-◌, ℕ, false, length, drop}
use Rattle.dr_places.specs.Places.{begins}
use Rattle.dr_places.proofs.search.behind_piece.Given as goal

abbrev pub invariant-loop-at : goal.invariant-loop-at
invariant-loop-at l = record {
  begun : l.from ≤ l.at;
  most : (0 < l.most) × (l.most ≤ 32768);
  words : length l.words ≡ length l.fn.words;
  comb : length l.comb ≡ length l.fn.comb;
  before : (o : ℕ) → l.from ≤ o → o < l.at → begins l.piece (drop o l.places) ≡ false;
}

abbrev pub decreases-loop-at : goal.decreases-loop-at
decreases-loop-at l = l.end - l.at
