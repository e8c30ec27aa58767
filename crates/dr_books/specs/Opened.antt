-- Books that were just opened.
use Rattle.std.specs.Prelude.{◌≡◌, ℕ, ◌+◌, List, [], ◌∷◌, Bool, true, length}

-- the shares are those of the seats from a place on, which have accepted and seen nothing
abbrev pub AreOpenedFrom : {Share : Type 0} → (Share → ℕ) → (Share → ℕ) → (Share → ℕ) → (Share → Bool) → ℕ → List Share → Type 0
AreOpenedFrom place mine floor whole from [] = Unit {0}
AreOpenedFrom place mine floor whole from (s ∷ ss) =
    (place s ≡ from) × (mine s ≡ 0) × (floor s ≡ 0) × (whole s ≡ true) × AreOpenedFrom place mine floor whole (from + 1) ss

-- there is the share of each of so many seats, in order
pub record AreOpened {Share : Type 0} (place mine floor : Share → ℕ) (whole : Share → Bool) (seats : ℕ) (shares : List Share) : Type 0 where
  pub all : length shares ≡ seats
  pub each : AreOpenedFrom place mine floor whole 0 shares
