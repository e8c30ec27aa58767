use Rattle.dr_places.specs.Digits.{AreMarked}
use Rattle.dr_places.proofs.digits.mark.Given as goal

abbrev pub invariant-loop-k : goal.invariant-loop-k
invariant-loop-k l = AreMarked l.letters l.k l.divisor l.count l.sets
