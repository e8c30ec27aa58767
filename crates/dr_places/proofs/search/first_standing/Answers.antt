use Rattle.std.proofs.Common.{◌≡◌, sym, subst, ◌+◌, false, drop}
use Rattle.dr_places.specs.Places.{begins}
use Rattle.dr_places.proofs.StandingLemmas.{first-standing}
use Rattle.dr_places.proofs.search.first_standing.Goals as goal

-- where the first letters of the piece don't stand, it doesn't
pub first_left-k-requires-clause-others : goal.first_left-k-requires-clause-others
first_left-k-requires-clause-others c k lt none =
    subst (λ l. begins c.args.piece.now (drop (c.args.place + k) l) ≡ false) (sym c.letters.ensures) (c.put_front.ensures.others k lt none)

pub returns-clause-first : goal.returns-clause-first
returns-clause-first c = first-standing c.args.count c.args.place c.put_standing.new.words c.args.piece.now c.args.places.now c.first_bit-2.result c.put_standing.ensures.each c.first_bit-2.ensures
