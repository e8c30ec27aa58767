use Rattle.std.proofs.Common.{◌≡◌, length}
use Rattle.dr_places.proofs.StandingLemmas.{AreLed}
use Rattle.dr_places.proofs.standing.put_front.Given as goal

abbrev pub invariant-loop-k : goal.invariant-loop-k
invariant-loop-k l = record {
  count : length l.words ≡ length l.fn.words;
  led : AreLed l.words l.count l.k l.place l.piece l.places;
}
