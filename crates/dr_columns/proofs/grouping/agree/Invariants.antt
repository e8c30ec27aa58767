use Rattle.std.proofs.Common.{◌≡◌, drop}
use Rattle.dr_columns.specs.Rows.{same_numbers}
use Rattle.dr_columns.proofs.grouping.agree.Given as goal

abbrev pub invariant-loop-column : goal.invariant-loop-column
invariant-loop-column l = same_numbers (drop l.column-index l.columns) l.i l.j ≡ same_numbers l.columns l.i l.j
