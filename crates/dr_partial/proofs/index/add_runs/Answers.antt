use Rattle.std.proofs.Common.{subst, take, slice_range, arith}
use Rattle.dr_ask.specs.Once.{asked_once}
use Rattle.dr_partial.specs.Grouped.{AddsAll}
use Rattle.dr_partial.proofs.Pieces.{no-rows, more-rows}
use Rattle.dr_partial.proofs.Runs.{joined}
use Rattle.dr_partial.proofs.index.add_runs.Goals as goal

pub loop-from-init : goal.loop-from-init
loop-from-init c = (omega arith, no-rows (asked_once c.args.query.now) c.args.groups.now c.requires.sound)

pub loop-from-preserved : goal.loop-from-preserved
loop-from-preserved c =
    let q = asked_once c.args.query.now in
    let before = c.args.groups.now in
    let between = c.loop-from.groups in
    let after = c.add_from.new.groups in
    let rows = c.args.rows.now in
    let from = c.loop-from.from in
    let to = c.in_ok-from.from in (
      c.in_ok-from.ensures.within,
      subst (λ l. AddsAll q before l after) (joined rows from to (omega (arith, c.in_ok-from.ensures.more)))
          (more-rows q before between after (take from rows) (slice_range rows from to) c.loop-from.invariant.1 c.in_ok-from.ensures.adds),
    )
