use Rattle.std.proofs.Common.{◌≡◌, ◌++◌, drop}
use Rattle.dr_ask.specs.Asked.{asked}
use Rattle.dr_scan.specs.Places.{places_over}
use Rattle.dr_scan.proofs.placing.places_in_turn.Given as goal

-- with the segments that are left
abbrev pub invariant-loop-i : goal.invariant-loop-i
invariant-loop-i l = l.places.items ++ places_over (asked l.query) l.i (drop l.i l.segments) ≡ places_over (asked l.query) 0 l.segments
