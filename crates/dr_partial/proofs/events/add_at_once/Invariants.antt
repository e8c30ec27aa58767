use Rattle.std.proofs.Common.{◌≤◌, ◌-◌, length, map, take}
use Rattle.dr_ask.specs.Once.{asked_once}
use Rattle.dr_partial.specs.Grouped.{AddsAll}
use Rattle.dr_rollup.specs.Unrolled.{unrolled}
use Rattle.dr_partial.proofs.events.add_at_once.Given as goal

abbrev pub invariant-loop-from : goal.invariant-loop-from
invariant-loop-from l = (l.from ≤ length l.events) × AddsAll (asked_once l.query) l.initial.groups (map (unrolled l.schema) (take l.from l.events)) l.groups

abbrev pub decreases-loop-from : goal.decreases-loop-from
decreases-loop-from l = length l.events - l.from
