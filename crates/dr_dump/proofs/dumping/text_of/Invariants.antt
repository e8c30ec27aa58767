use Rattle.std.proofs.Common.{◌≡◌, ◌++◌, map}
use Rattle.std.specs.List.{flat_map, range_with_len}
use Rattle.dr_image.specs.Table.{row_at}
use Rattle.dr_dump.specs.Dump.{head_line, row_line}
use Rattle.dr_dump.proofs.dumping.text_of.Given as goal

abbrev pub invariant-loop-i : goal.invariant-loop-i
invariant-loop-i l = l.text.items ≡ head_line l.view ++ flat_map row_line (map (row_at l.view) (range_with_len 0 l.i))
