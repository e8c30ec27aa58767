use Rattle.std.proofs.Common.{take}
use Rattle.dr_ask.specs.Asked.{asked}
use Rattle.dr_scan.specs.Turns.{GoesOn}
use Rattle.dr_scan.proofs.lot_writing.write_told.Given as goal

abbrev pub invariant-loop-i : goal.invariant-loop-i
invariant-loop-i l = GoesOn (asked l.query) l.scan l.columns l.initial.out l.out l.initial.window l.window (take l.i l.segments)
