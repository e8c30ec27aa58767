use Rattle.std.proofs.Common.{◌≡◌, ◌==◌, ◌&&◌, ◌+◌, ◌≤◌, ◌<◌, ℕ, false, get_or}
use Rattle.dr_places.proofs.by_letters.next_letters.Given as goal

abbrev pub invariant-loop-at : goal.invariant-loop-at
invariant-loop-at l = (k : ℕ) → l.from ≤ k → k < l.at → ((get_or l.text k 0 == l.first) && (get_or l.text (k + 1) 0 == l.second)) ≡ false
