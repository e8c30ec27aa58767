use Rattle.std.proofs.Common.{◌≡◌, ◌≤◌, ◌-◌, not, length, map}
use Rattle.std.specs.List.{range_with_len}
use Rattle.dr_filter.specs.Condition.{condition_in}
use Rattle.dr_columns.specs.Rows.{meets}
use Rattle.dr_columns.proofs.at_once.failures.Given as goal

abbrev pub invariant-loop-from : goal.invariant-loop-from
invariant-loop-from l = (l.from ≤ length l.view.times) × (l.failed.items ≡ map (λ i. not (meets l.view (condition_in l.filter) i)) (range_with_len 0 l.from))

abbrev pub decreases-loop-from : goal.decreases-loop-from
decreases-loop-from l = length l.view.times - l.from
