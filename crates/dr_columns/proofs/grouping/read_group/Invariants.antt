use Rattle.std.proofs.Common.{◌≡◌, take}
use Rattle.dr_answers.specs.Groups.{grouped_values}
use Rattle.dr_columns.specs.Rows.{key_at}
use Rattle.dr_columns.proofs.grouping.read_group.Given as goal

abbrev pub invariant-loop-dimension : goal.invariant-loop-dimension
invariant-loop-dimension l = l.group.items ≡ grouped_values (take l.dimension-index l.dimensions) (key_at l.view l.i).dims
