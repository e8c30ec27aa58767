use Rattle.std.proofs.Common.{◌≡◌, ◌∷◌, ◌∙◌, ◌+◌, sym, ap, length, arith}
use Rattle.std.specs.Vec.Iter.{into_iter_items}
use Rattle.std.proofs.lemmas.List.FromFn.{map-range_with_len_more}
use Rattle.dr_node.specs.Seats.{new_seat}
use Rattle.dr_node.proofs.seating.seats_of.Goals as goal

pub loop-share-preserved : goal.loop-share-preserved
loop-share-preserved g c =
    let at = c.loop-share in
    let steps : into_iter_items at.share-iterator ≡ c.in-Some.share ∷ into_iter_items c.next.new.self = c.in-Some.ensures.steps.0 in
    let count : at.number + length (into_iter_items at.share-iterator) ≡ g.B.Books.seats = at.invariant.0 in
    let gone = c.in-Some.ensures.steps.1 in
    let was = at.invariant.3 in
    let short = ap length steps in
    let opened = rw steps at at.invariant.1 in (
      omega arith,
      opened.4,
      c.in_ok-push.ensures.items ∙ rw (c.new.ensures.items, at.invariant.2) (sym (map-range_with_len_more new_seat 0 at.number at.number (omega arith))),
      omega arith,
    )
