-- What closing a node shows.
use Rattle.std.specs.Prelude.{◌≡◌, ℕ, ◌<◌, ◌==◌, List, Some, length, slice_get, sum, All}
use Rattle.std.specs.List.{count_by}
use Rattle.dr_base.specs.declared.event.Event.{Event}
use Rattle.dr_node.specs.Seats.{SeatView, marked}

-- these are all of so many seats, each once
pub record AreAllSeats (seats : ℕ) (given : List SeatView) : Type 0 where
  pub count : length given ≡ seats
  pub once : (k : ℕ) → k < seats → count_by (λ s. s.number == k) given ≡ 1

-- the seats are all seats, each once; the events with the mark of a seat are its own, in its order; the counts are those of the
-- seats, by their numbers, and add up to the number of the events
pub record IsClosed (seats : ℕ) (given : List SeatView) (stream : List Event) (mine : List ℕ) : Type 0 where
  pub all : AreAllSeats seats given
  pub own : All (λ s. marked s.number stream ≡ s.own) given
  pub counts : All (λ s. slice_get mine s.number ≡ Some s.mine) given
  pub total : sum mine ≡ length stream
