use Rattle.std.proofs.Common.{◌≡◌}
use Rattle.dr_places.proofs.WordLemmas.{ChangedTo}
use Rattle.dr_places.proofs.words.put_words.Given as goal

abbrev pub invariant-loop-k : goal.invariant-loop-k
invariant-loop-k l = ChangedTo l.from l.k (λ i w. w ≡ l.word) l.initial.words l.words
