-- The sets of the places at which a digit of the characters is this or that. No public contract cites this file.
use Rattle.std.specs.Prelude.{◌≡◌, ℕ, ◌+◌, ◌<◌, ◌/◌, ◌%◌, ◌⊎◌, ◌&&◌, List, [], length, get_or, eqb, nat_lt}
use Rattle.dr_places.specs.Places.{truth_in}

-- the words hold the places at which this digit of a character is x
pub record HasDigit (text : List ℕ) (divisor count x : ℕ) (words : List ℕ) : Type 0 where
  pub long : length words ≡ length text / 64 + 2
  pub told : (k : ℕ) → k < length text → truth_in words k ≡ eqb (get_or text k 0 / divisor % count) x

-- a set for each digit, of those places that stand before one
pub record AreMarked (text : List ℕ) (end divisor count : ℕ) (sets : List (List ℕ)) : Type 0 where
  pub all : length sets ≡ count
  pub long : (x : ℕ) → x < count → length (get_or sets x []) ≡ length text / 64 + 2
  pub told : (x : ℕ) → x < count → (k : ℕ) → truth_in (get_or sets x []) k ≡ (nat_lt k end && eqb (get_or text k 0 / divisor % count) x)

-- a set for each digit, or none where every character is below the divisor
pub record AreDigits (text : List ℕ) (divisor count : ℕ) (sets : List (List ℕ)) : Type 0 where
  pub each : (x : ℕ) → x < length sets → HasDigit text divisor count x (get_or sets x [])
  pub all : (length sets ≡ count) ⊎ ((length sets ≡ 0) × ((k : ℕ) → k < length text → get_or text k 0 < divisor))

-- the sets of a digit that a text was asked for
pub record IsDigitOf (text : List ℕ) (wanted_divisor wanted_count divisor count : ℕ) (sets : List (List ℕ)) : Type 0 where
  pub digits : AreDigits text divisor count sets
  pub divisor_is : divisor ≡ wanted_divisor
  pub count_is : count ≡ wanted_count

-- each character has no digit but those that there are sets of
abbrev pub AreCharacters : List ℕ → Type 0
AreCharacters text = (k : ℕ) → k < length text → get_or text k 0 < 2097152
