use Rattle.std.proofs.Common.{◌≡◌, ◌-◌, drop, length}
use Rattle.dr_node.proofs.Seatings.{times}
use Rattle.dr_node.proofs.closing.place.Given as goal

abbrev pub invariant-loop-place : goal.invariant-loop-place
invariant-loop-place g l = times l.number (drop l.place l.seats) ≡ 1

abbrev pub decreases-loop-place : goal.decreases-loop-place
decreases-loop-place g l = length l.seats - l.place
