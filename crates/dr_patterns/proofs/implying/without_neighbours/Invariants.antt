use Rattle.std.proofs.Common.{◌≡◌, ◌&&◌, ℕ, List, length}
use Rattle.std.specs.Vec.Iter.{into_iter_items, into_iter_len}
use Rattle.dr_patterns.specs.Each.{fits_all}
use Rattle.dr_patterns.proofs.implying.without_neighbours.Given as goal

abbrev pub invariant-loop-pattern : goal.invariant-loop-pattern
invariant-loop-pattern l = (into_iter_len l.pattern-iterator ≡ length (into_iter_items l.pattern-iterator))
    × ((text : List ℕ) → (fits_all l.kept.items text && fits_all (into_iter_items l.pattern-iterator) text) ≡ fits_all l.fn.patterns.items text)
