use Rattle.std.proofs.Common.{◌≡◌, ◌≤◌, ◌-◌, length, take}
use Rattle.dr_ask.specs.Asked.{asked}
use Rattle.dr_scan.specs.Places.{places_over}
use Rattle.dr_scan.proofs.lot_placing.places_in_lots.Given as goal

abbrev pub invariant-loop-from : goal.invariant-loop-from
invariant-loop-from l = (l.from ≤ length l.segments) × (l.places.items ≡ places_over (asked l.query) 0 (take l.from l.segments))

abbrev pub decreases-loop-from : goal.decreases-loop-from
decreases-loop-from l = length l.segments - l.from
