use Rattle.std.proofs.Common.{◌≡◌, ◌++◌, length}
use Rattle.std.specs.Vec.Iter.{into_iter_items, into_iter_len}
use Rattle.dr_predicate.proofs.Reaching.{AreOuter}
use Rattle.dr_predicate.proofs.ranges.outer.Given as goal

abbrev pub invariant-loop-bounds : goal.invariant-loop-bounds
invariant-loop-bounds l = (l.yielded ++ into_iter_items l.bounds-iterator ≡ l.fn.sorted.items)
    × (into_iter_len l.bounds-iterator ≡ length (into_iter_items l.bounds-iterator))
    × AreOuter l.fn.sorted.items l.outer.items (length l.yielded)
