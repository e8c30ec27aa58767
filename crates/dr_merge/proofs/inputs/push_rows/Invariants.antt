use Rattle.std.proofs.Common.{◌≡◌, ◌++◌, take}
use Rattle.dr_merge.proofs.inputs.push_rows.Given as goal

abbrev pub invariant-loop-i : goal.invariant-loop-i
invariant-loop-i l = l.rows.items ≡ l.fn.rows.items ++ take l.i l.input
