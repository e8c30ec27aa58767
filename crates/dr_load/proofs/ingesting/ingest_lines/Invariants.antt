use Rattle.std.proofs.Common.{◌≡◌}
use Rattle.dr_lines.specs.Lines.{steps_left}
use Rattle.dr_load.specs.OfSeat.{AreOfSeat}
use Rattle.dr_load.proofs.ingesting.ingest_lines.Given as goal

abbrev pub invariant-lines : goal.invariant-lines
invariant-lines g l = (l.events ≡ l.fn.events) × AreOfSeat g.B.Books.schema l.seat.number l.read.items

abbrev pub decreases-lines : goal.decreases-lines
decreases-lines g l = steps_left l.lines
