use Rattle.std.proofs.Common.{◌≡◌, ◌-◌, map}
use Rattle.std.specs.List.{range_with_len}
use Rattle.dr_image.specs.Table.{row_at}
use Rattle.dr_columns.proofs.at_once.rows_between.Given as goal

abbrev pub invariant-loop-i : goal.invariant-loop-i
invariant-loop-i l = l.rows.items ≡ map (row_at l.view) (range_with_len l.from (l.i - l.from))
