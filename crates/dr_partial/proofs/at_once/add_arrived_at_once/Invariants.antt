use Rattle.std.proofs.Common.{◌≤◌, ◌-◌, length, take}
use Rattle.dr_ask.specs.Once.{asked_once}
use Rattle.dr_partial.specs.Grouped.{AddsAll}
use Rattle.dr_partial.proofs.at_once.add_arrived_at_once.Given as goal

abbrev pub invariant-loop-from : goal.invariant-loop-from
invariant-loop-from l = (l.from ≤ length l.rows) × AddsAll (asked_once l.query) l.initial.groups (take l.from l.rows) l.groups

abbrev pub decreases-loop-from : goal.decreases-loop-from
decreases-loop-from l = length l.rows - l.from
