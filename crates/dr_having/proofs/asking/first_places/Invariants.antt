use Rattle.std.proofs.Common.{◌≡◌, length}
use Rattle.dr_having.specs.Placed.{HaveNumbers}
use Rattle.dr_having.proofs.asking.first_places.Given as goal

abbrev pub invariant-loop-place : goal.invariant-loop-place
invariant-loop-place l = (length l.places.items ≡ l.place) × HaveNumbers l.numbers l.places.items
