use Rattle.std.proofs.Common.{◌≡◌, take}
use Rattle.dr_scan.proofs.columns_written.copies.Given as goal

abbrev pub invariant-loop-column : goal.invariant-loop-column
invariant-loop-column l = l.copies ≡ take l.column-index l.columns
