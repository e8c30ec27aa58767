use Rattle.std.proofs.Common.{subst, List}
use Rattle.dr_node.specs.Seats.{SeatView}
use Rattle.dr_node.specs.Closing.{AreAllSeats}
use Rattle.dr_node.proofs.Closings.{shows-closed}
use Rattle.dr_node.proofs.node.Node.close.Goals as goal

pub returns-clause-closed : goal.returns-clause-closed
returns-clause-closed g c =
    let seats : List SeatView = c.args.seats.items in
    let stream = c.in_ok-snapshot.snapshot.stream in
    let all : AreAllSeats g.B.Books.seats seats = subst (λ n. AreAllSeats n seats) c.args.self.of_seats (subst (AreAllSeats c.args.self.seats) c.deref.ensures.value (c.are_all.ensures.0 c.if-not-are_all.false)) in
    let own = rw c.deref-3.ensures.value at (rw c.in-Some.is at c.in_ok-mine.ensures.own) in
    let kept = rw c.deref-3.ensures.value at (rw c.in-Some.is at c.in_ok-mine.ensures.seats) in
    let mine = rw c.in-Some.is at c.in_ok-mine.ensures.counts in
    shows-closed g.B.Books.seats seats stream c.in-Some.mine.items all own kept c.in_ok-snapshot.ensures.marks mine
