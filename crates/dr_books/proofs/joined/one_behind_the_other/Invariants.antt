use Rattle.std.proofs.Common.{◌≡◌, ◌++◌, map, length}
use Rattle.std.specs.Vec.Iter.{into_iter_items, into_iter_len}
use Rattle.dr_books.specs.Sides.{first, second}
use Rattle.dr_books.proofs.joined.one_behind_the_other.Given as goal

abbrev pub invariant-loop-share : goal.invariant-loop-share
invariant-loop-share g l = (l.yielded ++ into_iter_items l.share-iterator ≡ l.fn.firsts.items)
    × (l.sides.items ≡ map first l.yielded)
    × (into_iter_len l.share-iterator ≡ length (into_iter_items l.share-iterator))

abbrev pub invariant-loop-share-2 : goal.invariant-loop-share-2
invariant-loop-share-2 g l = (l.yielded ++ into_iter_items l.share-iterator ≡ l.fn.seconds.items)
    × (l.sides.items ≡ map first l.fn.firsts.items ++ map second l.yielded)
    × (into_iter_len l.share-iterator ≡ length (into_iter_items l.share-iterator))
