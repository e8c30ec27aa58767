use Rattle.std.proofs.Common.{◌≡◌, ◌++◌, not, map}
use Rattle.std.specs.List.{range_with_len}
use Rattle.dr_filter.specs.Condition.{condition_in}
use Rattle.dr_columns.specs.Rows.{meets}
use Rattle.dr_columns.proofs.at_once.put_failures.Given as goal

abbrev pub invariant-loop-i : goal.invariant-loop-i
invariant-loop-i l = l.failed.items ≡ l.initial.failed.items ++ map (λ i. not (meets l.view (condition_in l.filter) i)) (range_with_len l.from l.i)
