use Rattle.std.proofs.Common.{slice_range}
use Rattle.dr_ask.specs.Once.{asked_once}
use Rattle.dr_partial.specs.Grouped.{AddsAll}
use Rattle.dr_partial.proofs.at_once.add_arrived_lot.Given as goal

abbrev pub invariant-loop-i : goal.invariant-loop-i
invariant-loop-i l = AddsAll (asked_once l.query) l.initial.groups (slice_range l.rows l.from l.i) l.groups
