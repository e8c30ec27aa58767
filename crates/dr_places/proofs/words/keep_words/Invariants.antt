use Rattle.std.proofs.Common.{◌+◌, get_or}
use Rattle.dr_places.specs.Places.{IsKept}
use Rattle.dr_places.proofs.WordLemmas.{ChangedTo}
use Rattle.dr_places.proofs.words.keep_words.Given as goal

abbrev pub invariant-loop-k : goal.invariant-loop-k
invariant-loop-k l = ChangedTo l.from l.k (λ i w. IsKept (get_or l.others i 0) (get_or l.others (i + 1) 0) 0 (get_or l.initial.words i 0) w) l.initial.words l.words
