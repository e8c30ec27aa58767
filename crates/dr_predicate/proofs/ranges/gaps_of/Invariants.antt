use Rattle.std.proofs.Common.{◌≡◌, ◌++◌, length}
use Rattle.std.specs.Vec.Iter.{into_iter_items, into_iter_len}
use Rattle.dr_predicate.proofs.Gaps.{AreGaps}
use Rattle.dr_predicate.proofs.ranges.gaps_of.Given as goal

abbrev pub invariant-loop-bounds : goal.invariant-loop-bounds
invariant-loop-bounds l = (l.yielded ++ into_iter_items l.bounds-iterator ≡ l.fn.ranges.items)
    × (into_iter_len l.bounds-iterator ≡ length (into_iter_items l.bounds-iterator))
    × AreGaps l.fn.ranges.items l.gaps.items l.left (length l.yielded)
