use Rattle.std.proofs.Common.{◌+◌, get_or, arith}
use Rattle.dr_places.specs.Places.{truth_in}
use Rattle.dr_places.proofs.StandingLemmas.{letter-any, letter-one}
use Rattle.dr_places.proofs.standing.put_letter.Goals as goal

pub returns-then-letter-eq95-clause-each : goal.returns-then-letter-eq95-clause-each
returns-then-letter-eq95-clause-each c k lt within = letter-any c.args.letter (get_or c.args.places.now (c.args.lo + k) 0) (truth_in c.args.words.now k) c.if-letter-eq95.true

pub returns-clause-each : goal.returns-clause-each
returns-clause-each c k lt within =
    letter-one c.args.letter (get_or c.args.places.now (c.args.lo + k) 0) (truth_in c.args.words.now k) (truth_in c.keep.new.words k) c.if-letter-eq95.false (c.keep.ensures.each k (omega arith) lt within)
