use Rattle.std.proofs.Common.{◌≡◌, take}
use Rattle.dr_fragment.proofs.sorting.references.Given as goal

abbrev pub invariant-loop-i : goal.invariant-loop-i
invariant-loop-i l = l.rows.items ≡ take l.i l.arrived
