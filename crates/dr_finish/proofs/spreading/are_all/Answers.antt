use Rattle.dr_finish.proofs.Numbered.{taken-more}
use Rattle.dr_finish.proofs.spreading.are_all.Goals as goal

pub loop-place-preserved : goal.loop-place-preserved
loop-place-preserved c = taken-more c.args.numbers.now c.loop-place.place c.loop-place-test.true c.if-number-place.false c.loop-place.invariant
