use Rattle.std.proofs.Common.{◌≡◌, ◌<◌, ℕ, length, get_or}
use Rattle.dr_node.specs.Places.{IsPlace}
use Rattle.dr_node.proofs.closing.places.Given as goal

abbrev pub invariant-loop-number : goal.invariant-loop-number
invariant-loop-number g l = (length l.places.items ≡ l.number) × ((k : ℕ) → k < l.number → IsPlace l.seats k (get_or l.places.items k 0))
