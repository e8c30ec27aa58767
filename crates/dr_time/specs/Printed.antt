-- The text of a time (ISO 8601): `YYYY-MM-DDTHH:MM:SS.mmmZ`, in UTC.
use Rattle.std.specs.Prelude.{◌≡◌, ℕ, ◌-◌, ◌/◌, ◌%◌, if◌then◌else◌, List, ◌++◌, length, replicate, codes, ℤ, pos, ◌≤ℤ◌, ◌⊎◌, unsigned_abs}
use Rattle.std.specs.Ordering.{int_eq}
use Rattle.std.specs.Int.{int_div_euclid, int_rem_euclid}
use Rattle.std.specs.Fmt.{decimal}
use Rattle.dr_time.specs.Calendar.{year_at, month_of_year_at, day_of_month_at, since_year_zero}
use Rattle.dr_time.specs.Eternity.{eternity_start, eternity_start_text}
use Rattle.dr_time.specs.Instant.{day_millis, first_instant}

-- a number with zeros in front, up to this many digits
abbrev pub zero_padded : ℕ → ℕ → List ℕ
zero_padded width n = replicate (width - length (decimal n)) 48 ++ decimal n

-- `YYYY-MM-DD`, the date of a day, where 0000-01-01 is day 0
unfoldable pub date_text : ℕ → List ℕ
date_text n =
    zero_padded 4 (year_at n) ++ codes "-" ++ zero_padded 2 (month_of_year_at n) ++ codes "-" ++ zero_padded 2 (day_of_month_at n)

-- `HH:MM:SS.mmm`, the time of day so many milliseconds after midnight
unfoldable pub clock_text : ℕ → List ℕ
clock_text millis =
    zero_padded 2 (millis / 3_600_000) ++ codes ":" ++ zero_padded 2 (millis / 60_000 % 60) ++ codes ":"
    ++ zero_padded 2 (millis / 1_000 % 60) ++ codes "." ++ zero_padded 3 (millis % 1_000)

-- the day number of an instant, and the milliseconds since the midnight before it
abbrev pub day_number_at : ℤ → ℤ
day_number_at t = int_div_euclid t (pos day_millis)

abbrev pub millis_at : ℤ → ℕ
millis_at t = unsigned_abs (int_rem_euclid t (pos day_millis))

-- the text of a time that is not before the year 0
unfoldable pub calendar_text : ℤ → List ℕ
calendar_text t =
    date_text (since_year_zero (day_number_at t)) ++ codes "T" ++ clock_text (millis_at t) ++ codes "Z"

-- the text of a time that can be printed
unfoldable pub instant_text : ℤ → List ℕ
instant_text t = if int_eq t eternity_start then eternity_start_text else calendar_text t

-- 10000-01-03T00:00:00.000Z, where the last of the weeks ends that begin before the year 10000
abbrev pub last_printable : ℤ
last_printable = pos 253_402_473_600_000

-- the times that can be printed: those of events, the ends of their buckets, and the start of eternity
abbrev pub IsPrintable : ℤ → Type 0
IsPrintable t = ((first_instant ≤ℤ t) × (t ≤ℤ last_printable)) ⊎ (t ≡ eternity_start)
