-- Instants, in milliseconds since 1970-01-01T00:00:00Z, and how their texts are read (ISO 8601).
use Rattle.std.specs.Prelude.{◌≡◌, ℕ, Bool, ◌&&◌, if◌then◌else◌, List, [], ◌∷◌, ℤ, pos, neg_ℤ, ◌+ℤ◌, ◌-ℤ◌, ◌*ℤ◌, ◌≤ℤ◌, int_le, Result, Ok, Err}
use Rattle.dr_base.specs.Reading.{◌>>=◌}
use Rattle.dr_time.specs.declared.time_error.TimeError.{TimeError}
use Rattle.dr_time.specs.declared.time_error.TimeError.TheVariants.{BadInstant, OutOfRange}
use Rattle.dr_time.specs.Calendar.{is_date, day_number}
use Rattle.dr_time.specs.Clock.{hyphen, clock_behind}
use Rattle.dr_time.specs.Digits.{two_digits, four_digits, after}

-- 24 hours
abbrev pub day_millis : ℕ
day_millis = 86_400_000

-- 0001-01-01T00:00:00.000Z, the first time that an event may have
abbrev pub first_instant : ℤ
first_instant = neg_ℤ (pos 62_135_596_800_000)

-- 9999-12-31T23:59:59.999Z, the last one
abbrev pub last_instant : ℤ
last_instant = pos 253_402_300_799_999

abbrev pub IsInstant : ℤ → Type 0
IsInstant t = (first_instant ≤ℤ t) × (t ≤ℤ last_instant)

abbrev pub is_instant : ℤ → Bool
is_instant t = int_le first_instant t && int_le t last_instant

abbrev pub in_range : ℤ → Result ℤ TimeError
in_range t = if is_instant t then Ok t else Err OutOfRange

-- the day number of a date that the calendar has
abbrev pub day_of : ℕ → ℕ → ℕ → Result ℤ TimeError
day_of year month day = if is_date year month day then Ok (day_number year month day) else Err BadInstant

-- the time at so many milliseconds of a day, on a clock that is ahead of UTC by so many milliseconds
abbrev pub time_at : ℤ → ℕ → ℤ → ℤ
time_at day millis offset = day *ℤ pos day_millis +ℤ pos millis -ℤ offset

abbrev pub instant_at : ℤ → ℕ → ℤ → Result ℤ TimeError
instant_at day millis offset = in_range (time_at day millis offset)

-- `-MM` or `-DD` behind a year or a month, where there is anything, and the first where there is nothing
abbrev pub part_behind : List ℕ → Result (ℕ × List ℕ) TimeError
part_behind [] = Ok (1, [])
part_behind (c ∷ rest) = after hyphen (c ∷ rest) >>= two_digits

-- `YYYY[-MM[-DD]]`: the day number, and the text behind, which is empty where the day isn't written
unfoldable pub date_of : List ℕ → Result (ℤ × List ℕ) TimeError
date_of text = do
  year ← four_digits text
  month ← part_behind year.1
  day ← part_behind month.1
  number ← day_of year.0 month.0 day.0
  Ok (number, day.1)

-- the instant that a text names: a date, or a date and a time of day with its zone
unfoldable pub instant_of : List ℕ → Result ℤ TimeError
instant_of text = do
  date ← date_of text
  clock ← clock_behind date.1
  instant_at date.0 clock.0 clock.1

-- what a function returned, seen by view, is what the reading gives
abbrev pub Reads : {X Y : Type 0} → (X → Y) → Result X TimeError → Result Y TimeError → Type 0
Reads view (Ok x) reading = reading ≡ Ok (view x)
Reads view (Err e) reading = reading ≡ Err e
