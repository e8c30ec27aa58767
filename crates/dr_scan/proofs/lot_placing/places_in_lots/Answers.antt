use Rattle.std.proofs.Common.{arith}
use Rattle.dr_ask.specs.Asked.{asked}
use Rattle.dr_scan.proofs.InTurn.{places-further}
use Rattle.dr_scan.proofs.lot_placing.places_in_lots.Goals as goal

pub loop-from-preserved : goal.loop-from-preserved
loop-from-preserved c = (
  c.lot_end-to.ensures.within,
  places-further (asked c.args.query.now) c.args.segments.now c.loop-from.from c.lot_end-to.result c.loop-from.places.items c.add_lot.new.places.items
      (omega (arith, c.lot_end-to.ensures.more)) c.lot_end-to.ensures.within c.in_ok-add_lot.ensures c.loop-from.invariant.1,
)
