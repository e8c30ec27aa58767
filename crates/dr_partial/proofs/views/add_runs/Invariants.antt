use Rattle.std.proofs.Common.{◌≤◌, ◌-◌, length}
use Rattle.dr_ask.specs.Once.{asked_once}
use Rattle.dr_columns.specs.Rows.{rows_between}
use Rattle.dr_partial.specs.Grouped.{AddsAll}
use Rattle.dr_partial.specs.Known.{AreKnown}
use Rattle.dr_partial.proofs.views.add_runs.Given as goal

abbrev pub invariant-loop-from : goal.invariant-loop-from
invariant-loop-from l =
    (l.from ≤ length l.source.view.now.times)
    × AddsAll (asked_once l.source.query.now) l.initial.groups (rows_between l.source.view.now 0 l.from) l.groups
    × AreKnown (asked_once l.source.query.now) l.source.view.now l.groups l.known.items

abbrev pub decreases-loop-from : goal.decreases-loop-from
decreases-loop-from l = length l.source.view.now.times - l.from
