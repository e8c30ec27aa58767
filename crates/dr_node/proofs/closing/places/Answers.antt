use Rattle.dr_node.proofs.Compared.{places-more}
use Rattle.dr_node.proofs.closing.places.Goals as goal

pub place-requires-after_bounds : goal.place-requires-after_bounds
place-requires-after_bounds g c κs within = c.requires.once c.loop-number.number c.loop-number-test.true

pub loop-number-preserved : goal.loop-number-preserved
loop-number-preserved g c =
    places-more c.args.seats.now c.loop-number.places.items c.push.new.self.items c.loop-number.number c.place.result c.loop-number.invariant.0 c.loop-number.invariant.1 c.place.ensures c.in_ok-push.ensures.items
