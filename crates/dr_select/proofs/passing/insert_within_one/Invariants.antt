use Rattle.std.proofs.Common.{take}
use Rattle.dr_predicate.specs.Within.{some_within}
use Rattle.dr_rowindex.specs.Orders.{Adds}
use Rattle.dr_select.proofs.passing.insert_within_one.Given as goal

abbrev pub invariant-loop-bounds : goal.invariant-loop-bounds
invariant-loop-bounds l = Adds (some_within (take l.bounds-index l.ranges)) l.order l.initial.set l.set
