use Rattle.std.proofs.Common.{map}
use Rattle.std.proofs.lemmas.List.{map-append}
use Rattle.dr_rollup.specs.Unrolled.{unrolled}
use Rattle.dr_ask.specs.Once.{asked_once}
use Rattle.dr_partial.proofs.Pieces.{no-rows, next}
use Rattle.dr_partial.proofs.events.add_each.Goals as goal

pub loop-shared-init : goal.loop-shared-init
loop-shared-init c = no-rows (asked_once c.args.query.now) c.args.groups.now c.requires.sound

pub loop-shared-preserved : goal.loop-shared-preserved
loop-shared-preserved c =
    let u = unrolled c.args.schema.now in
    next (asked_once c.args.query.now) (map u) (map-append u) c.args.groups.now c.loop-shared.groups c.add_event.new.groups
    c.args.events.now c.loop-shared.shared-index c.shared-item.result c.loop-shared-test.true c.shared-item.is c.loop-shared.invariant (rw c.event.ensures at c.in_ok-add_event.ensures)
