use Rattle.std.proofs.Common.{take}
use Rattle.dr_time.specs.Union.{union_holds}
use Rattle.dr_rowindex.specs.Orders.{Adds}
use Rattle.dr_select.proofs.choosing.insert_held.Given as goal

abbrev pub invariant-loop-interval : goal.invariant-loop-interval
invariant-loop-interval l = Adds (union_holds (take l.interval-index l.intervals)) l.times l.initial.set l.set
