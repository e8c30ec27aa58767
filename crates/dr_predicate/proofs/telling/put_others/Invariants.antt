use Rattle.std.proofs.Common.{◌≡◌, ◌&&◌, ℕ, List, length}
use Rattle.std.specs.Vec.Iter.{into_iter_items, into_iter_len}
use Rattle.dr_predicate.specs.Asked.{dimensions_told, all_told}
use Rattle.dr_predicate.specs.Match.{value_at}
use Rattle.dr_predicate.proofs.telling.put_others.Given as goal

abbrev pub invariant-loop-other : goal.invariant-loop-other
invariant-loop-other l = (into_iter_len l.other-iterator ≡ length (into_iter_items l.other-iterator))
    × ((dims : List (List ℕ)) → (dimensions_told dims l.tests.items && all_told (into_iter_items l.other-iterator) (value_at l.place dims)) ≡ (dimensions_told dims l.initial.tests.items && all_told l.fn.others.items (value_at l.place dims)))
