use Rattle.std.proofs.Common.{◌+◌, refl, arith}
use Rattle.dr_ask.specs.Asked.{asked}
use Rattle.dr_scan.proofs.AskedTogether.{each-at, each-long}
use Rattle.dr_scan.proofs.InTurn.{places-next}
use Rattle.dr_scan.proofs.lot_placing.add_lot.Goals as goal

pub index-requires : goal.index-requires
index-requires c = omega (arith, c.loop-i-test.true, c.in_ok-told.told.ok, each-long (asked c.args.query.now) c.in_ok-told.told.items c.args.segments.now c.in_ok-told.ensures)

pub add_places-requires : goal.add_places-requires
add_places-requires c =
    each-at (asked c.args.query.now) c.in_ok-told.told.items c.args.segments.now c.loop-i.i c.index.result.now c.index-segments-i.result c.in_ok-told.ensures c.loop-i-test.true c.index.ensures c.index-segments-i.is

pub loop-i-preserved : goal.loop-i-preserved
loop-i-preserved c =
    places-next (asked c.args.query.now) c.args.segments.now c.loop-i.i c.args.first (c.args.first + c.loop-i.i) c.index-segments-i.result c.args.places.now.items c.loop-i.places.items c.add_places.new.places.items
    c.loop-i-test.true c.index-segments-i.is refl c.in_ok-add_places.ensures c.loop-i.invariant
