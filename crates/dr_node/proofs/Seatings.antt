-- What is counted over seats, and seats of shares.
use Rattle.std.proofs.Common.{◌≡◌, ℕ, ◌+◌, ◌<◌, ◌≤◌, List, arith, inl, inr}
use Rattle.std.specs.Prelude.{◌==◌}
use Rattle.std.specs.List.{count_by}
use Rattle.std.proofs.Math.Nat.{eq-or-lt_of_le}
use Rattle.dr_node.specs.Seats.{SeatView}

-- how often the seat of a number is among seats
abbrev pub times : ℕ → List SeatView → ℕ
times k seats = count_by (λ (s : SeatView). s.number == k) seats

-- where each number below the next one stands once, and that one does too
pub once-more : (seats : List SeatView) (n : ℕ) → ((k : ℕ) → k < n → times k seats ≡ 1) → times n seats ≡ 1 → (k : ℕ) → k < n + 1 → times k seats ≡ 1
once-more seats n all one k lt =
    let most : k ≤ n = omega arith in
    elim (eq-or-lt_of_le most) [ inl same ↦ rw same one | inr below ↦ all k below ]
