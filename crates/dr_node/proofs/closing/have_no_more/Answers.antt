use Rattle.std.proofs.Common.{◌≡◌, subst, ◌<◌, length, All, get_or}
use Rattle.std.proofs.lemmas.List.{take_all}
use Rattle.std.proofs.lemmas.List.Elements.{All-more}
use Rattle.dr_node.specs.Seats.{SeatView}
use Rattle.dr_node.proofs.closing.have_no_more.Goals as goal

pub loop-seat-preserved : goal.loop-seat-preserved
loop-seat-preserved g c =
    let P : SeatView → Type 0 = λ s. get_or c.args.counts.now s.number 0 ≡ length s.own in
    let Q : SeatView → Type 0 = λ s. (s.mine ≡ length s.own) × (s.number < g.B.Books.seats) in
    let at = c.loop-seat.seat-index in
    let lt : at < length c.args.seats.now = c.loop-seat-test.true in
    let is : c.seat-item.result ≡ get_or c.args.seats.now at c.seat-item.result = c.seat-item.is in (
      All-more P c.args.seats.now at c.seat-item.result lt c.loop-seat.invariant.0 (subst P is (c.has_accepted.ensures.count.0 c.if-not-has_accepted.false)),
      All-more Q c.args.seats.now at c.seat-item.result lt c.loop-seat.invariant.1 (subst Q is (c.has_accepted.ensures.mine, c.has_accepted.ensures.number)),
    )

pub returns-clause-counts : goal.returns-clause-counts
returns-clause-counts g c =
    let P : SeatView → Type 0 = λ s. get_or c.args.counts.now s.number 0 ≡ length s.own in
    let all = take_all c.loop-seat.seat-index c.args.seats.now c.loop-seat-test.false in
    λ h. subst (All P) all c.loop-seat.invariant.0

pub returns-clause-seats : goal.returns-clause-seats
returns-clause-seats g c =
    let Q : SeatView → Type 0 = λ s. (s.mine ≡ length s.own) × (s.number < g.B.Books.seats) in
    let all = take_all c.loop-seat.seat-index c.args.seats.now c.loop-seat-test.false in
    λ h. subst (All Q) all c.loop-seat.invariant.1
