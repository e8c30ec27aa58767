use Rattle.std.proofs.Common.{◌∙◌, sym, ap, subst, map, take, slice_range, arith}
use Rattle.std.proofs.lemmas.List.{map-append}
use Rattle.dr_rollup.specs.Unrolled.{unrolled}
use Rattle.dr_ask.specs.Once.{asked_once}
use Rattle.dr_partial.specs.Grouped.{AddsAll}
use Rattle.dr_partial.proofs.Pieces.{no-rows, more-rows}
use Rattle.dr_partial.proofs.Runs.{joined}
use Rattle.dr_partial.proofs.events.add_at_once.Goals as goal

pub loop-from-init : goal.loop-from-init
loop-from-init c = (omega arith, no-rows (asked_once c.args.query.now) c.args.groups.now c.requires.sound)

pub loop-from-preserved : goal.loop-from-preserved
loop-from-preserved c =
    let q = asked_once c.args.query.now in
    let u = unrolled c.args.schema.now in
    let before = c.args.groups.now in
    let between = c.loop-from.groups in
    let after = c.add_lot.new.groups in
    let events = c.args.events.now in
    let from = c.loop-from.from in
    let to = c.lot_end-to.result in (
      c.lot_end-to.ensures.within,
      subst (λ l. AddsAll q before l after) (sym (map-append u (take from events) (slice_range events from to)) ∙ ap (map u) (joined events from to (omega (arith, c.lot_end-to.ensures.more))))
          (more-rows q before between after (map u (take from events)) (map u (slice_range events from to)) c.loop-from.invariant.1 c.in_ok-add_lot.ensures),
    )
