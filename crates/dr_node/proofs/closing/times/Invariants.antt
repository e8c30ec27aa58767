use Rattle.std.proofs.Common.{◌≡◌, ◌+◌, ◌≤◌, drop}
use Rattle.std.specs.Prelude.{◌==◌}
use Rattle.std.specs.List.{count_by}
use Rattle.dr_node.specs.Seats.{SeatView}
use Rattle.dr_node.proofs.closing.times.Given as goal

abbrev pub invariant-loop-seat : goal.invariant-loop-seat
invariant-loop-seat g l = (l.times ≤ l.seat-index) × (l.times + count_by (λ (s : SeatView). s.number == l.number) (drop l.seat-index l.seats) ≡ count_by (λ (s : SeatView). s.number == l.number) l.seats)
