use Rattle.std.proofs.Common.{◌≡◌, ◌≤◌}
use Rattle.dr_node.proofs.node.Node.merger.Given as goal

abbrev pub invariant-loop : goal.invariant-loop
invariant-loop g l =
    (goal.iterator-loop g).can_next l.iterator' × (goal.iterator-loop g).is_finite l.iterator'
    × (l.fn.seat.floor ≤ l.seat.floor) × (l.seat.number ≡ l.fn.seat.number) × (l.seat.mine ≡ l.fn.seat.mine) × (l.seat.own ≡ l.fn.seat.own)
