use Rattle.std.proofs.Common.{map}
use Rattle.dr_places.proofs.OwnLemmas.{AreKnownTo}
use Rattle.dr_places.proofs.own_texts.places_of.Given as goal

abbrev pub invariant-loop-row : goal.invariant-loop-row
invariant-loop-row l = AreKnownTo l.row (map (λ t. t.now) l.texts) l.places.items
