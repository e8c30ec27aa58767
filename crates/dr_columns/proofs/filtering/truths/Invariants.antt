use Rattle.std.proofs.Common.{◌≡◌, map, take}
use Rattle.dr_predicate.specs.Match.{passes}
use Rattle.dr_image.specs.Checked.{column_at}
use Rattle.dr_columns.proofs.filtering.truths.Given as goal

abbrev pub invariant-loop-v : goal.invariant-loop-v
invariant-loop-v l = l.truths.items ≡ map (passes l.test) (take l.v (column_at l.view l.d).dictionary)
