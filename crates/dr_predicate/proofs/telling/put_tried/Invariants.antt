use Rattle.std.proofs.Common.{◌≡◌, ◌&&◌, not, ℕ, List, length}
use Rattle.std.specs.Vec.Iter.{into_iter_items, into_iter_len}
use Rattle.dr_patterns.specs.Fitting.{fits_some}
use Rattle.dr_predicate.specs.Asked.{dimensions_told}
use Rattle.dr_predicate.specs.Match.{value_at}
use Rattle.dr_predicate.proofs.telling.put_tried.Given as goal

abbrev pub invariant-loop-pattern : goal.invariant-loop-pattern
invariant-loop-pattern l = (into_iter_len l.pattern-iterator ≡ length (into_iter_items l.pattern-iterator))
    × ((dims : List (List ℕ)) → (dimensions_told dims l.tests.items && not (fits_some (into_iter_items l.pattern-iterator) (value_at l.place dims))) ≡ (dimensions_told dims l.initial.tests.items && not (fits_some l.fn.patterns.items (value_at l.place dims))))
