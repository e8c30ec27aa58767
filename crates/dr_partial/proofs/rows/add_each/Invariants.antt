use Rattle.std.proofs.Common.{take}
use Rattle.dr_ask.specs.Once.{asked_once}
use Rattle.dr_partial.specs.Grouped.{AddsAll}
use Rattle.dr_partial.proofs.rows.add_each.Given as goal

abbrev pub invariant-loop-row : goal.invariant-loop-row
invariant-loop-row l = AddsAll (asked_once l.query) l.initial.groups (take l.row-index l.rows) l.groups
