-- Which texts spell which time (ISO 8601, calendar dates): `YYYY[-MM[-DD[(T or one space)HH[:MM[:SS[.digits]]]zone]]]`, where the
-- zone is `Z`, `+HH[:MM]`, `-HH[:MM]` or nothing.
use Rattle.std.specs.Prelude.{◌≡◌, ℕ, ◌+◌, ◌-◌, ◌*◌, ◌<◌, ◌≤◌, true, List, [], ◌++◌, length, take, codes, ℤ, pos, neg_ℤ, Result, Ok, Err}
use Rattle.std.specs.List.{fold, list_all}
use Rattle.dr_time.specs.declared.time_error.TimeError.{TimeError}
use Rattle.dr_time.specs.declared.time_error.TimeError.TheVariants.{BadInstant, OutOfRange, BadInterval, EndBeforeStart}
use Rattle.dr_time.specs.Calendar.{is_date, day_number}
use Rattle.dr_time.specs.Digits.{is_digit}
use Rattle.dr_time.specs.Instant.{IsInstant, time_at}

-- the number that digits spell
abbrev pub number_of : List ℕ → ℕ
number_of digits = fold (λ n c. n * 10 + (c - 48)) 0 digits

abbrev pub AreDigits : List ℕ → Type 0
AreDigits text = list_all is_digit text ≡ true

-- so many digits
abbrev pub IsNumeral : ℕ → List ℕ → Type 0
IsNumeral width text = AreDigits text × (length text ≡ width)

-- two digits of a number below this one
abbrev pub IsBelow : ℕ → List ℕ → Type 0
IsBelow bound text = IsNumeral 2 text × (number_of text < bound)

-- `YYYY-MM-DD`: the year, the month and the day
pub data SpellsDay : List ℕ → ℕ → ℕ → ℕ → Type 0 where
  to_day : (y m d : List ℕ) → IsNumeral 4 y → IsNumeral 2 m → IsNumeral 2 d
      → SpellsDay (y ++ codes "-" ++ m ++ codes "-" ++ d) (number_of y) (number_of m) (number_of d)

-- `YYYY[-MM[-DD]]`, where a month or a day that isn't written is the first
pub data SpellsDate : List ℕ → ℕ → ℕ → ℕ → Type 0 where
  to_year : (y : List ℕ) → IsNumeral 4 y → SpellsDate y (number_of y) 1 1
  to_month : (y m : List ℕ) → IsNumeral 4 y → IsNumeral 2 m → SpellsDate (y ++ codes "-" ++ m) (number_of y) (number_of m) 1
  whole : (text : List ℕ) (year month day : ℕ) → SpellsDay text year month day → SpellsDate text year month day

-- `HH[:MM]`, in minutes
pub data SpellsMinutes : List ℕ → ℕ → Type 0 where
  to_hour : (h : List ℕ) → IsBelow 24 h → SpellsMinutes h (number_of h * 60)
  to_minute : (h m : List ℕ) → IsBelow 24 h → IsBelow 60 m → SpellsMinutes (h ++ codes ":" ++ m) (number_of h * 60 + number_of m)

-- `SS[.digits]`, in milliseconds: of 1 to 9 digits the first three count
pub data SpellsSeconds : List ℕ → ℕ → Type 0 where
  to_second : (s : List ℕ) → IsBelow 60 s → SpellsSeconds s (number_of s * 1_000)
  to_fraction : (s f : List ℕ) → IsBelow 60 s → AreDigits f → 1 ≤ length f → length f ≤ 9
      → SpellsSeconds (s ++ codes "." ++ f) (number_of s * 1_000 + number_of (take 3 (f ++ codes "00")))

-- `HH[:MM[:SS[.digits]]]`, in milliseconds
pub data SpellsClock : List ℕ → ℕ → Type 0 where
  without_seconds : (text : List ℕ) (minutes : ℕ) → SpellsMinutes text minutes → SpellsClock text (minutes * 60_000)
  with_seconds : (h m s : List ℕ) (millis : ℕ) → IsBelow 24 h → IsBelow 60 m → SpellsSeconds s millis
      → SpellsClock (h ++ codes ":" ++ m ++ codes ":" ++ s) ((number_of h * 60 + number_of m) * 60_000 + millis)

-- by how many milliseconds a clock is ahead of UTC
pub data SpellsZone : List ℕ → ℤ → Type 0 where
  unsaid : SpellsZone [] (pos 0)
  utc : SpellsZone (codes "Z") (pos 0)
  ahead : (text : List ℕ) (minutes : ℕ) → SpellsMinutes text minutes → SpellsZone (codes "+" ++ text) (pos (minutes * 60_000))
  late : (text : List ℕ) (minutes : ℕ) → SpellsMinutes text minutes → SpellsZone (codes "-" ++ text) (neg_ℤ (pos (minutes * 60_000)))

-- what stands between a date and a time of day
pub data IsMark : List ℕ → Type 0 where
  letter : IsMark (codes "T")
  space : IsMark (codes " ")

-- the text spells this time, on a day that the calendar has
pub data Spells : List ℕ → ℤ → Type 0 where
  date : (text : List ℕ) (year month day : ℕ) → SpellsDate text year month day → is_date year month day ≡ true
      → Spells text (time_at (day_number year month day) 0 (pos 0))
  date_and_time : (text mark clock zone : List ℕ) (year month day millis : ℕ) (offset : ℤ) → SpellsDay text year month day
      → is_date year month day ≡ true → IsMark mark → SpellsClock clock millis → SpellsZone zone offset
      → Spells (text ++ mark ++ clock ++ zone) (time_at (day_number year month day) millis offset)

-- what is read of a text: the time that it spells, where that is one of an event; else that it is out of range, or that it is none
abbrev pub IsRead : List ℕ → Result ℤ TimeError → Type 0
IsRead text (Ok t) = Spells text t × IsInstant t
IsRead text (Err BadInstant) = (t : ℤ) → Spells text t → ⊥
IsRead text (Err OutOfRange) = (t : ℤ) × Spells text t × (IsInstant t → ⊥)
IsRead text (Err BadInterval) = ⊥
IsRead text (Err EndBeforeStart) = ⊥
