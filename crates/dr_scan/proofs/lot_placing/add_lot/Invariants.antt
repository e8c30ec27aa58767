use Rattle.std.proofs.Common.{◌≡◌, ◌++◌, take}
use Rattle.dr_ask.specs.Asked.{asked}
use Rattle.dr_scan.specs.Places.{places_over}
use Rattle.dr_scan.proofs.lot_placing.add_lot.Given as goal

abbrev pub invariant-loop-i : goal.invariant-loop-i
invariant-loop-i l = l.places.items ≡ l.initial.places.items ++ places_over (asked l.query) l.first (take l.i l.segments)
