use Rattle.std.proofs.Common.{◌-◌, length}
use Rattle.dr_filter.specs.Condition.{condition_in}
use Rattle.dr_select.specs.Rows.{meets}
use Rattle.dr_rowindex.proofs.TellLemmas.{TellTo}
use Rattle.dr_select.proofs.choosing.met_by_parts.Given as goal

abbrev pub invariant-loop-from : goal.invariant-loop-from
invariant-loop-from l = TellTo l.from (meets (condition_in l.filter)) l.rows l.set

abbrev pub decreases-loop-from : goal.decreases-loop-from
decreases-loop-from l = length l.rows - l.from
