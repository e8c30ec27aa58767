use Rattle.std.proofs.Common.{map, take}
use Rattle.dr_ask.specs.Once.{asked_once}
use Rattle.dr_partial.specs.Grouped.{AddsAll}
use Rattle.dr_rollup.specs.Unrolled.{unrolled}
use Rattle.dr_partial.proofs.events.add_lot.Given as goal

abbrev pub invariant-loop-i : goal.invariant-loop-i
invariant-loop-i l = AddsAll (asked_once l.query) l.initial.groups (map (unrolled l.schema) (take l.i l.events)) l.groups
