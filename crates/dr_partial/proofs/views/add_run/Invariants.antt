use Rattle.dr_ask.specs.Once.{asked_once}
use Rattle.dr_columns.specs.Rows.{rows_between}
use Rattle.dr_partial.specs.Grouped.{AddsAll}
use Rattle.dr_partial.specs.Known.{AreKnown}
use Rattle.dr_partial.proofs.views.add_run.Given as goal

abbrev pub invariant-loop-i : goal.invariant-loop-i
invariant-loop-i l =
    AddsAll (asked_once l.source.query.now) l.initial.groups (rows_between l.source.view.now l.from l.i) l.groups
    × AreKnown (asked_once l.source.query.now) l.source.view.now l.groups l.known.items
