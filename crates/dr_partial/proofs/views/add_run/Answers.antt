use Rattle.std.proofs.Common.{sym, subst, ◌∷◌, [], arith}
use Rattle.dr_ask.specs.Once.{asked_once}
use Rattle.dr_image.specs.Table.{row_at}
use Rattle.dr_columns.specs.Rows.{rows_between}
use Rattle.dr_columns.proofs.RunLemmas.{none, one-more}
use Rattle.dr_partial.specs.Grouped.{AddsAll}
use Rattle.dr_partial.proofs.Pieces.{no-rows, more-rows}
use Rattle.dr_partial.proofs.views.add_run.Goals as goal

pub loop-i-init : goal.loop-i-init
loop-i-init c =
    let s = c.args.source.now in
    let before = c.args.groups.now in
    (subst (λ l. AddsAll (asked_once s.query.now) before l before) (sym (none s.view.now c.args.from)) (no-rows (asked_once s.query.now) before c.requires.sound), c.requires.known)

pub loop-i-preserved : goal.loop-i-preserved
loop-i-preserved c =
    let s = c.args.source.now in
    let q = asked_once s.query.now in
    let before = c.args.groups.now in
    let between = c.loop-i.groups in
    let after = c.add_at.new.groups in
    let i = c.loop-i.i in (
      subst (λ l. AddsAll q before l after) (sym (one-more s.view.now c.args.from i (omega (arith, c.loop-i.auto.i))))
          (more-rows q before between after (rows_between s.view.now c.args.from i) (row_at s.view.now i ∷ []) c.loop-i.invariant.0 c.in_ok-add_at.ensures.adds),
      c.in_ok-add_at.ensures.known,
    )
