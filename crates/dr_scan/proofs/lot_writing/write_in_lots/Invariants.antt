use Rattle.std.proofs.Common.{◌≤◌, ◌-◌, length, take}
use Rattle.dr_ask.specs.Asked.{asked}
use Rattle.dr_scan.specs.Turns.{GoesOn}
use Rattle.dr_scan.proofs.lot_writing.write_in_lots.Given as goal

abbrev pub invariant-loop-from : goal.invariant-loop-from
invariant-loop-from l =
    (l.from ≤ length l.segments)
    × GoesOn (asked l.query) l.scan l.columns l.initial.out l.out (record { skip = l.scan.offset; left = l.scan.limit }) l.window (take l.from l.segments)

abbrev pub decreases-loop-from : goal.decreases-loop-from
decreases-loop-from l = length l.segments - l.from
