use Rattle.std.proofs.Common.{subst, take, slice_range, arith}
use Rattle.dr_ask.specs.Once.{asked_once}
use Rattle.dr_partial.specs.Grouped.{AddsAll}
use Rattle.dr_partial.proofs.Pieces.{no-rows, more-rows}
use Rattle.dr_partial.proofs.Runs.{joined}
use Rattle.dr_partial.proofs.at_once.add_arrived_at_once.Goals as goal

pub loop-from-init : goal.loop-from-init
loop-from-init c = (omega arith, no-rows (asked_once c.args.query.now) c.args.groups.now c.requires.sound)

pub loop-from-preserved : goal.loop-from-preserved
loop-from-preserved c =
    let q = asked_once c.args.query.now in
    let before = c.args.groups.now in
    let between = c.loop-from.groups in
    let after = c.add_arrived_lot.new.groups in
    let rows = c.args.rows.now in
    let from = c.loop-from.from in
    let to = c.lot_end-to.result in (
      omega (arith, c.lot_end-to.ensures.within, c.len-count.ensures),
      subst (λ l. AddsAll q before l after) (joined rows from to (omega (arith, c.lot_end-to.ensures.more)))
          (more-rows q before between after (take from rows) (slice_range rows from to) c.loop-from.invariant.1 c.in_ok-add_arrived_lot.ensures),
    )
