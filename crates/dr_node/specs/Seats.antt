-- What a seat is seen as, and which events of a stream are its own.
use Rattle.std.specs.Prelude.{ℕ, ◌+◌, ◌==◌, List, [], ◌∷◌, ◌++◌, map}
use Rattle.std.specs.List.{filter, range_with_len}
use Rattle.dr_base.specs.declared.event.Event.{Event}

-- a seat: its number, how many events it accepted, how many events of the stream it has seen, and the events that it accepted,
-- in order
pub record SeatView : Type 0 where
  pub number : ℕ
  pub mine : ℕ
  pub floor : ℕ
  pub own : List Event

-- a receipt: the number of the event that it was given for
pub record Received : Type 0 where
  pub number : ℕ

-- the events with the mark of a seat, in order
abbrev pub marked : ℕ → List Event → List Event
marked k es = filter (λ e. e.seat == k) es

-- a seat that has accepted and seen nothing; and the seats of a new node, from number 0
abbrev pub new_seat : ℕ → SeatView
new_seat k = record { number = k; mine = 0; floor = 0; own = [] }

abbrev pub new_seats : ℕ → List SeatView
new_seats n = map new_seat (range_with_len 0 n)

-- the seat once its event was accepted with that number
abbrev pub with_accepted : ℕ → Event → SeatView → SeatView
with_accepted n e s = record { number = s.number; mine = s.mine + 1; floor = n + 1; own = s.own ++ e ∷ [] }

-- the seat once it has seen so many events of the stream
abbrev pub with_seen : ℕ → SeatView → SeatView
with_seen n s = record { number = s.number; mine = s.mine; floor = n; own = s.own }
