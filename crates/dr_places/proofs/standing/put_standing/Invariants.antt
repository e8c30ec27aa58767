use Rattle.std.proofs.Common.{◌≡◌, length}
use Rattle.dr_places.proofs.StandingLemmas.{AreCombed}
use Rattle.dr_places.proofs.standing.put_standing.Given as goal

abbrev pub invariant-loop-first : goal.invariant-loop-first
invariant-loop-first l = record {
  count : length l.words ≡ length l.fn.words;
  comb : length l.comb ≡ length l.fn.comb;
  combed : AreCombed l.words l.count l.first l.place l.piece l.places;
}
