use Rattle.std.proofs.Common.{◌≡◌, ◌+◌, length, map}
use Rattle.std.specs.List.{range_with_len}
use Rattle.std.specs.Vec.Iter.{into_iter_items, into_iter_len}
use Rattle.dr_books.specs.Opened.{AreOpenedFrom}
use Rattle.dr_node.specs.Seats.{new_seat}
use Rattle.dr_node.proofs.seating.seats_of.Given as goal

abbrev pub invariant-loop-share : goal.invariant-loop-share
invariant-loop-share g l = (l.number + length (into_iter_items l.share-iterator) ≡ g.B.Books.seats)
    × AreOpenedFrom g.B.Books.place g.B.Books.own_mine g.B.Books.own_floor g.B.Books.is_whole l.number (into_iter_items l.share-iterator)
    × (l.seats.items ≡ map new_seat (range_with_len 0 l.number))
    × (into_iter_len l.share-iterator ≡ length (into_iter_items l.share-iterator))
