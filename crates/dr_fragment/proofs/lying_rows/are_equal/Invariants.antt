use Rattle.std.proofs.Common.{◌≡◌, take}
use Rattle.dr_fragment.proofs.lying_rows.are_equal.Given as goal

abbrev pub invariant-loop-i : goal.invariant-loop-i
invariant-loop-i l = take l.i l.rows ≡ take l.i l.others
