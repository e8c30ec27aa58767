use Rattle.std.proofs.Common.{◌≡◌, slice_range}
use Rattle.dr_scan.proofs.at_once.rows_between.Given as goal

abbrev pub invariant-loop-i : goal.invariant-loop-i
invariant-loop-i l = l.lot.items ≡ slice_range l.rows l.from l.i
