use Rattle.std.proofs.Common.{◌≡◌, ◌<◌, ℕ}
use Rattle.std.specs.Prelude.{◌==◌}
use Rattle.std.specs.List.{count_by}
use Rattle.dr_node.specs.Seats.{SeatView}
use Rattle.dr_node.proofs.closing.are_all.Given as goal

abbrev pub invariant-loop-number : goal.invariant-loop-number
invariant-loop-number g l = (k : ℕ) → k < l.number → count_by (λ (s : SeatView). s.number == k) l.seats ≡ 1
