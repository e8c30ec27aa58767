use Rattle.dr_having.proofs.Placing.{one-place-more}
use Rattle.dr_having.proofs.asking.first_places.Goals as goal

pub loop-place-preserved : goal.loop-place-preserved
loop-place-preserved c =
    one-place-more c.args.numbers.now c.loop-place.places.items c.push.new.self.items c.loop-place.place c.same_place.result c.loop-place.invariant.0 c.loop-place.invariant.1 c.same_place.ensures c.in_ok-push.ensures.items
