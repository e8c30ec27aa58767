use Rattle.std.proofs.Common.{◌≡◌, ◌<◌, All, take, length, get_or}
use Rattle.dr_node.specs.Seats.{SeatView}
use Rattle.dr_node.proofs.closing.have_no_more.Given as goal

abbrev pub invariant-loop-seat : goal.invariant-loop-seat
invariant-loop-seat g l = All (λ (s : SeatView). get_or l.counts s.number 0 ≡ length s.own) (take l.seat-index l.seats)
    × All (λ (s : SeatView). (s.mine ≡ length s.own) × (s.number < g.B.Books.seats)) (take l.seat-index l.seats)
