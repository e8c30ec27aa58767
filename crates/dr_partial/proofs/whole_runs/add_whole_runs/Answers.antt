use Rattle.std.proofs.Common.{sym, subst, arith}
use Rattle.dr_ask.specs.Once.{asked_once}
use Rattle.dr_columns.specs.Rows.{rows_between}
use Rattle.dr_columns.proofs.RunLemmas.{none, joined}
use Rattle.dr_partial.specs.Grouped.{AddsAll}
use Rattle.dr_partial.proofs.Pieces.{no-rows, more-rows}
use Rattle.dr_partial.proofs.whole_runs.add_whole_runs.Goals as goal

pub loop-from-init : goal.loop-from-init
loop-from-init c =
    let s = c.args.source.now in
    let before = c.args.groups.now in
    (omega arith, subst (λ l. AddsAll (asked_once s.query.now) before l before) (sym (none s.view.now 0)) (no-rows (asked_once s.query.now) before c.requires.sound))

pub loop-from-preserved : goal.loop-from-preserved
loop-from-preserved c =
    let s = c.args.source.now in
    let q = asked_once s.query.now in
    let before = c.args.groups.now in
    let between = c.loop-from.groups in
    let after = c.add_whole_run.new.groups in
    let from = c.loop-from.from in
    let to = c.run_end-to.result in (
      c.run_end-to.ensures.within,
      subst (λ l. AddsAll q before l after) (joined s.view.now 0 from to (omega arith) (omega (arith, c.run_end-to.ensures.more)))
          (more-rows q before between after (rows_between s.view.now 0 from) (rows_between s.view.now from to) c.loop-from.invariant.1 c.in_ok-add_whole_run.ensures),
    )
