-- The time of day and the zone of an instant, as they are read (ISO 8601).
use Rattle.std.specs.Prelude.{ℕ, ◌+◌, ◌*◌, nat_lt, ◌&&◌, ◌||◌, ◌==◌, if◌then◌else◌, List, [], ◌∷◌, ℤ, pos, neg_ℤ, Result, Ok, Err}
use Rattle.dr_base.specs.Reading.{◌>>=◌}
use Rattle.dr_time.specs.declared.time_error.TimeError.{TimeError}
use Rattle.dr_time.specs.declared.time_error.TimeError.TheVariants.{BadInstant}
use Rattle.dr_time.specs.Digits.{one_digit, two_digits, digit_or_zero, behind_digits, behind, at_end}

abbrev pub space : ℕ
space = 32

abbrev pub plus : ℕ
plus = 43

abbrev pub hyphen : ℕ
hyphen = 45

abbrev pub full_stop : ℕ
full_stop = 46

abbrev pub colon : ℕ
colon = 58

abbrev pub letter_t : ℕ
letter_t = 84

abbrev pub letter_z : ℕ
letter_z = 90

-- the minutes since midnight, whose hours run from 00 to 23
abbrev pub minutes_at : ℕ → ℕ → Result ℕ TimeError
minutes_at hour minute = if nat_lt hour 24 && nat_lt minute 60 then Ok (hour * 60 + minute) else Err BadInstant

-- the milliseconds since a full minute
abbrev pub seconds_at : ℕ → ℕ → Result ℕ TimeError
seconds_at second millis = if nat_lt second 60 then Ok (second * 1_000 + millis) else Err BadInstant

-- `HH[:MM]`: the minutes, and the text behind
unfoldable pub minutes_of : List ℕ → Result (ℕ × List ℕ) TimeError
minutes_of text = do
  hour ← two_digits text
  minute ← behind colon two_digits hour.1
  minutes ← minutes_at hour.0 minute.0
  Ok (minutes, minute.1)

-- 1 to 9 digits of a fraction of a second: the milliseconds, for which the first three count, and the text behind
unfoldable pub fraction_of : List ℕ → Result (ℕ × List ℕ) TimeError
fraction_of text = do
  tenths ← one_digit text
  hundredths ← Ok (digit_or_zero tenths.1)
  thousandths ← Ok (digit_or_zero hundredths.1)
  Ok (tenths.0 * 100 + hundredths.0 * 10 + thousandths.0, behind_digits 6 thousandths.1)

-- `SS[.digits]`: the milliseconds, and the text behind
unfoldable pub seconds_of : List ℕ → Result (ℕ × List ℕ) TimeError
seconds_of text = do
  second ← two_digits text
  fraction ← behind full_stop fraction_of second.1
  millis ← seconds_at second.0 fraction.0
  Ok (millis, fraction.1)

-- `HH[:MM]`, and nothing behind: the milliseconds by which a clock is off
unfoldable pub shift_of : List ℕ → Result ℕ TimeError
shift_of text = do
  minutes ← minutes_of text
  at_end (minutes.0 * 60_000) minutes.1

-- by how many milliseconds the clock is ahead of UTC: `Z`, `+HH[:MM]`, `-HH[:MM]`, or nothing, which is UTC
unfoldable pub zone_of : List ℕ → Result ℤ TimeError
zone_of [] = Ok (pos 0)
zone_of (c ∷ rest) =
    if c == letter_z then at_end (pos 0) rest
    else (if c == plus then (shift_of rest >>= (λ shift. Ok (pos shift)))
    else (if c == hyphen then (shift_of rest >>= (λ shift. Ok (neg_ℤ (pos shift)))) else Err BadInstant))

-- `HH[:MM[:SS[.digits]]]` and a zone: the milliseconds since midnight, and how far the clock is ahead of UTC
unfoldable pub clock_of : List ℕ → Result (ℕ × ℤ) TimeError
clock_of text = do
  minutes ← minutes_of text
  seconds ← behind colon seconds_of minutes.1
  offset ← zone_of seconds.1
  Ok (minutes.0 * 60_000 + seconds.0, offset)

-- behind a date: the same behind `T` or one space, or nothing, which is midnight in UTC
unfoldable pub clock_behind : List ℕ → Result (ℕ × ℤ) TimeError
clock_behind [] = Ok (0, pos 0)
clock_behind (c ∷ rest) = if (c == letter_t) || (c == space) then clock_of rest else Err BadInstant
