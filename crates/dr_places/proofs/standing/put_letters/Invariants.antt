use Rattle.std.proofs.Common.{◌≡◌, ◌≤◌, ◌<◌, ◌+◌, ◌-◌, ◌*◌, ◌/◌, ◌&&◌, ℕ, length, drop}
use Rattle.dr_places.specs.Places.{truth_in, fits_comb}
use Rattle.dr_places.proofs.standing.put_letters.Given as goal

abbrev pub invariant-loop-left : goal.invariant-loop-left
invariant-loop-left l = record {
  within : l.left ≤ (length l.piece - 1 - l.first) / 64 + 1;
  count : length l.comb ≡ length l.fn.comb;
  told : (k : ℕ) → k / 64 < l.end → 64 * l.word + k + (length l.piece - l.first) ≤ length l.places
      → truth_in l.comb k ≡ (truth_in l.fn.comb k && fits_comb 63 0 (drop (l.first + 64 * l.left) l.piece) (drop (64 * (l.word + l.left) + k) l.places));
}

abbrev pub decreases-loop-left : goal.decreases-loop-left
decreases-loop-left l = l.left
