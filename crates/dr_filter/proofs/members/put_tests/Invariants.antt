use Rattle.std.proofs.Common.{◌≡◌, ◌&&◌, ℕ, ℤ, List, length}
use Rattle.std.specs.Vec.Iter.{into_iter_items, into_iter_len}
use Rattle.dr_predicate.specs.Asked.{dimensions_told}
use Rattle.dr_filter.specs.Condition.{conditions_in, every_matches}
use Rattle.dr_filter.proofs.members.put_tests.Given as goal

abbrev pub invariant-loop-test : goal.invariant-loop-test
invariant-loop-test l = (into_iter_len l.test-iterator ≡ length (into_iter_items l.test-iterator))
    × ((time : ℤ) (dims : List (List ℕ)) → (every_matches time dims (conditions_in l.members.items) && dimensions_told dims (into_iter_items l.test-iterator)) ≡ (every_matches time dims (conditions_in l.initial.members.items) && dimensions_told dims l.fn.tests.items))
