use Rattle.std.proofs.Common.{◌≡◌, ◌&&◌, ℕ, List, length}
use Rattle.std.specs.List.{list_all}
use Rattle.std.specs.Vec.Iter.{into_iter_items, into_iter_len}
use Rattle.dr_predicate.specs.Asked.{dimensions_told, asked_at}
use Rattle.dr_predicate.proofs.telling.told_of.Given as goal

abbrev pub invariant-loop-one : goal.invariant-loop-one
invariant-loop-one l = (into_iter_len l.one-iterator ≡ length (into_iter_items l.one-iterator))
    × ((dims : List (List ℕ)) → (dimensions_told dims l.tests.items && list_all (asked_at dims) (into_iter_items l.one-iterator)) ≡ list_all (asked_at dims) l.fn.asked.items)
