use Rattle.std.proofs.Common.{map}
use Rattle.dr_places.proofs.OwnLemmas.{AreSpelledTo}
use Rattle.dr_places.proofs.own_texts.letters_of_each.Given as goal

abbrev pub invariant-loop-row : goal.invariant-loop-row
invariant-loop-row l = AreSpelledTo l.row (map (λ t. t.now) l.texts) l.letters.items
