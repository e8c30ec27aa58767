use Rattle.std.proofs.Common.{◌≡◌}
use Rattle.dr_load.proofs.ingesting.accept_all.Given as goal

abbrev pub invariant-loop-event : goal.invariant-loop-event
invariant-loop-event g l = l.seat.number ≡ l.fn.seat.number
