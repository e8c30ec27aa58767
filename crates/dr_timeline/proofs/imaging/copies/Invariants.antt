use Rattle.std.proofs.Common.{◌≡◌, take}
use Rattle.dr_timeline.proofs.imaging.copies.Given as goal

abbrev pub invariant-loop-i : goal.invariant-loop-i
invariant-loop-i l = l.copies.items ≡ take l.i l.rows
