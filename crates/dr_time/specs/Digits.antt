-- Decimal digits at the front of a text, as they are read: each gives its number and the text behind.
use Rattle.std.specs.Prelude.{ℕ, zero, suc, ◌+◌, ◌-◌, ◌*◌, Bool, ◌&&◌, ◌==◌, if◌then◌else◌, List, [], ◌∷◌, Result, Ok, Err}
use Rattle.std.specs.Int.{is_in_range}
use Rattle.dr_base.specs.Reading.{◌>>=◌}
use Rattle.dr_time.specs.declared.time_error.TimeError.{TimeError}
use Rattle.dr_time.specs.declared.time_error.TimeError.TheVariants.{BadInstant}

abbrev pub is_digit : ℕ → Bool
is_digit c = is_in_range 48 57 c

abbrev pub one_digit : List ℕ → Result (ℕ × List ℕ) TimeError
one_digit [] = Err BadInstant
one_digit (c ∷ rest) = if is_digit c then Ok (c - 48, rest) else Err BadInstant

abbrev pub two_digits : List ℕ → Result (ℕ × List ℕ) TimeError
two_digits (a ∷ b ∷ rest) = if is_digit a && is_digit b then Ok ((a - 48) * 10 + (b - 48), rest) else Err BadInstant
two_digits _ = Err BadInstant

unfoldable pub four_digits : List ℕ → Result (ℕ × List ℕ) TimeError
four_digits text = do
  high ← two_digits text
  low ← two_digits high.1
  Ok (high.0 * 100 + low.0, low.1)

-- a digit, where the text goes on with one, and 0 where it doesn't
abbrev pub digit_or_zero : List ℕ → ℕ × List ℕ
digit_or_zero [] = (0, [])
digit_or_zero (c ∷ rest) = if is_digit c then (c - 48, rest) else (0, c ∷ rest)

-- the text behind its first digits, of which it passes over so many at most
unfoldable pub behind_digits : ℕ → List ℕ → List ℕ
behind_digits zero text = text
behind_digits (suc most) text = behind_digits most (digit_or_zero text).1

-- what is read behind a mark, where the text goes on with the mark, and 0 where it doesn't
abbrev pub behind : ℕ → (List ℕ → Result (ℕ × List ℕ) TimeError) → List ℕ → Result (ℕ × List ℕ) TimeError
behind mark read [] = Ok (0, [])
behind mark read (c ∷ rest) = if c == mark then read rest else Ok (0, c ∷ rest)

-- the text behind this character, with which it begins
abbrev pub after : ℕ → List ℕ → Result (List ℕ) TimeError
after c [] = Err BadInstant
after c (x ∷ rest) = if x == c then Ok rest else Err BadInstant

-- a value, where no text is left
abbrev pub at_end : {A : Type 0} → A → List ℕ → Result A TimeError
at_end value [] = Ok value
at_end value (c ∷ rest) = Err BadInstant
