-- Where the seats of a node stand in a list. No public contract cites this file.
use Rattle.std.specs.Prelude.{◌≡◌, ℕ, ◌<◌, List, length, get_or}
use Rattle.dr_node.specs.Seats.{SeatView}

-- the seat of a number stands at a place
abbrev pub IsPlace : List SeatView → ℕ → ℕ → Type 0
IsPlace seats number place = (place < length seats) × ((s : SeatView) → (get_or seats place s).number ≡ number)

-- the place of the seat of each number below n
pub record ArePlaces (n : ℕ) (seats : List SeatView) (places : List ℕ) : Type 0 where
  pub count : length places ≡ n
  pub each : (k : ℕ) → k < n → IsPlace seats k (get_or places k 0)
