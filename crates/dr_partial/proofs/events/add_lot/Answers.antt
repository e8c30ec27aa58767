use Rattle.std.proofs.Common.{map}
use Rattle.std.proofs.lemmas.List.{map-append}
use Rattle.dr_rollup.specs.Unrolled.{unrolled}
use Rattle.dr_ask.specs.Once.{asked_once}
use Rattle.dr_partial.proofs.Pieces.{no-rows, next}
use Rattle.dr_partial.proofs.events.add_lot.Goals as goal

pub loop-i-init : goal.loop-i-init
loop-i-init c = no-rows (asked_once c.args.query.now) c.args.groups.now c.requires.sound

pub loop-i-preserved : goal.loop-i-preserved
loop-i-preserved c =
    let u = unrolled c.args.schema.now in
    next (asked_once c.args.query.now) (map u) (map-append u) c.args.groups.now c.loop-i.groups c.add_told_event.new.groups
    c.args.events.now c.loop-i.i c.index-events-i.result c.loop-i-test.true c.index-events-i.is c.loop-i.invariant (rw c.event.ensures at c.in_ok-add_told_event.ensures)
