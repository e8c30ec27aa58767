use Rattle.std.proofs.Common.{map, take}
use Rattle.dr_rollup.specs.Unrolled.{unrolled}
use Rattle.dr_ask.specs.Once.{asked_once}
use Rattle.dr_partial.specs.Grouped.{AddsAll}
use Rattle.dr_partial.proofs.events.add_each.Given as goal

abbrev pub invariant-loop-shared : goal.invariant-loop-shared
invariant-loop-shared l = AddsAll (asked_once l.query) l.initial.groups (map (unrolled l.schema) (take l.shared-index l.events)) l.groups
