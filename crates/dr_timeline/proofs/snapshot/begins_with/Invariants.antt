use Rattle.std.proofs.Common.{◌≡◌, take}
use Rattle.dr_timeline.proofs.snapshot.begins_with.Given as goal

abbrev pub invariant-loop-i : goal.invariant-loop-i
invariant-loop-i l = take l.i l.events.items ≡ take l.i l.first.items
