-- What is printed of an instant spells it, and so is read as that instant.
use Rattle.std.proofs.Common.{◌≡◌, ℕ, ◌+◌, ◌-◌, ◌*◌, ◌/◌, ◌%◌, ◌<◌, ◌≤◌, true, false, inl, inr, List, ◌++◌, take, codes, Ok, refl, ◌∙◌, arith, append_assoc, ℤ, pos, neg_ℤ, ◌-ℤ◌, ◌≤ℤ◌, int_eq}
use Rattle.std.proofs.lemmas.Bool.{cases_lt}
use Rattle.std.proofs.lemmas.Bool.Decides.{nat_tests}
use Rattle.std.proofs.lemmas.Int.{ints}
use Rattle.jiff_core.proofs.SignedLemmas.{signed_arith}
use Rattle.dr_time.specs.Calendar.{is_date, days_of_month, month_length, days_before, month_at, year_at, month_of_year_at, day_of_month_at, since_year_zero, days_before_1970, day_number}
use Rattle.dr_time.specs.Eternity.{eternity_start}
use Rattle.dr_time.specs.Instant.{IsInstant, instant_of, in_range, time_at}
use Rattle.dr_time.specs.Printed.{zero_padded, date_text, clock_text, calendar_text, instant_text, day_number_at, millis_at}
use Rattle.dr_time.specs.Spelling.{number_of, SpellsDay, to_day, SpellsClock, with_seconds, to_fraction, utc, letter, Spells, date_and_time}
use Rattle.dr_time.proofs.CalendarLemmas.{days_before-suc, days_before-10000, days_before-mono, month_at-low, month_at-high, month_length_bounds, since_year_zero_is}
use Rattle.dr_time.proofs.DigitLemmas.{Writes, WritesMillis, zero_padded-writes_two, zero_padded-writes_four, zero_padded-writes_millis}
use Rattle.dr_time.proofs.PrintedLemmas.{millis_at_is}
use Rattle.dr_time.proofs.SpelledLemmas.{instant_of-reads}

-- ---- the date of a day before the year 10000

year_bound : (n : ℕ) → n < 3_652_425 → year_at n < 10000
year_bound n lt =
    elim (cases_lt (month_at n) 120_000) [
      | inl low ↦ omega arith
      | inr high ↦ absurd (omega (arith, days_before-10000, days_before-mono 120_000 (month_at n) high, month_at-low n))
    ]

is_date-at : (y m d : ℕ) → 1 ≤ m → m ≤ 12 → 1 ≤ d → d ≤ days_of_month y m → is_date y m d ≡ true
is_date-at y m d low high first last = grind (arith, nat_tests)

is_date-of_day : (n : ℕ) → is_date (year_at n) (month_of_year_at n) (day_of_month_at n) ≡ true
is_date-of_day n =
    let within : day_of_month_at n ≤ month_length (month_at n) = omega (arith, month_at-low n, month_at-high n, days_before-suc (month_at n)) in
    is_date-at (year_at n) (month_of_year_at n) (day_of_month_at n) (omega arith) (omega arith) (omega arith) within

day_number-of_day : (n : ℕ) → day_number (year_at n) (month_of_year_at n) (day_of_month_at n) ≡ pos n -ℤ pos days_before_1970
day_number-of_day n =
    let month : 12 * (month_at n / 12) + (month_at n % 12 + 1 - 1) ≡ month_at n = omega arith in
    let day : days_before (month_at n) + (n - days_before (month_at n) + 1 - 1) ≡ n = omega (arith, month_at-low n) in
    rw (month, day) refl

spells_day : (Y M D : List ℕ) (y m d : ℕ) → Writes 4 Y y → Writes 2 M m → Writes 2 D d → SpellsDay (Y ++ codes "-" ++ M ++ codes "-" ++ D) y m d
spells_day Y M D y m d year month day =
    rw (← year.value, ← month.value, ← day.value) (to_day Y M D year.numeral month.numeral day.numeral)

date_text-spells : (n : ℕ) → n < 3_652_425 → SpellsDay (date_text n) (year_at n) (month_of_year_at n) (day_of_month_at n)
unfolding date_text
date_text-spells n lt =
    let long = month_length_bounds (month_at n) in
    let short : day_of_month_at n < 100 = omega (arith, month_at-low n, month_at-high n, days_before-suc (month_at n)) in
    spells_day (zero_padded 4 (year_at n)) (zero_padded 2 (month_of_year_at n)) (zero_padded 2 (day_of_month_at n)) (year_at n) (month_of_year_at n) (day_of_month_at n)
    (zero_padded-writes_four (year_at n) (year_bound n lt)) (zero_padded-writes_two (month_of_year_at n) (omega arith)) (zero_padded-writes_two (day_of_month_at n) short)

-- ---- the time of day

spells_clock : (H M S F : List ℕ) (h m s f millis : ℕ) → Writes 2 H h → Writes 2 M m → Writes 2 S s → WritesMillis F f → h < 24 → m < 60 → s < 60 → (h * 60 + m) * 60_000 + (s * 1_000 + f) ≡ millis
    → SpellsClock (H ++ codes ":" ++ M ++ codes ":" ++ S ++ codes "." ++ F) millis
spells_clock H M S F h m s f millis hour minute second fraction low_h low_m low_s value =
    let seconds = to_fraction S F (second.numeral, omega (arith, second.value)) fraction.digits (omega (arith, fraction.long)) (omega (arith, fraction.long)) in
    let clock = with_seconds H M (S ++ codes "." ++ F) _ (hour.numeral, omega (arith, hour.value)) (minute.numeral, omega (arith, minute.value)) seconds in
    let whole : (number_of H * 60 + number_of M) * 60_000 + (number_of S * 1_000 + number_of (take 3 (F ++ codes "00"))) ≡ millis = omega (arith, hour.value, minute.value, second.value, fraction.value) in
    let regroup : H ++ codes ":" ++ M ++ codes ":" ++ S ++ codes "." ++ F ≡ H ++ codes ":" ++ M ++ codes ":" ++ (S ++ codes "." ++ F) = simp append_assoc refl in
    rw regroup (rw whole at clock)

clock_text-spells : (millis : ℕ) → millis < 86_400_000 → SpellsClock (clock_text millis) millis
unfolding clock_text
clock_text-spells millis lt =
    spells_clock (zero_padded 2 (millis / 3_600_000)) (zero_padded 2 (millis / 60_000 % 60)) (zero_padded 2 (millis / 1_000 % 60)) (zero_padded 3 (millis % 1_000))
    (millis / 3_600_000) (millis / 60_000 % 60) (millis / 1_000 % 60) (millis % 1_000) millis
    (zero_padded-writes_two (millis / 3_600_000) (omega arith)) (zero_padded-writes_two (millis / 60_000 % 60) (omega arith)) (zero_padded-writes_two (millis / 1_000 % 60) (omega arith)) (zero_padded-writes_millis (millis % 1_000) (omega arith))
    (omega arith) (omega arith) (omega arith) (omega arith)

-- ---- the instant

in_range-inside : (t : ℤ) → IsInstant t → in_range t ≡ Ok t
in_range-inside t h = grind (arith, ints)

millis_bound : (t : ℤ) → millis_at t < 86_400_000
millis_bound t = omega (arith, signed_arith, millis_at_is t)

calendar_text-spells : (t : ℤ) → IsInstant t → Spells (calendar_text t) t
unfolding calendar_text
calendar_text-spells t h =
    let n = since_year_zero (day_number_at t) in
    let low : neg_ℤ (pos days_before_1970) ≤ℤ day_number_at t = omega (arith, signed_arith) in
    let since = since_year_zero_is (day_number_at t) low in
    let high : since_year_zero (day_number_at t) < 3_652_425 = omega (arith, signed_arith) in
    let number : pos (since_year_zero (day_number_at t)) -ℤ pos days_before_1970 ≡ day_number_at t = omega (arith, signed_arith) in
    let value : time_at (day_number (year_at n) (month_of_year_at n) (day_of_month_at n)) (millis_at t) (pos 0) ≡ t = rw (day_number-of_day n, number) (omega (arith, signed_arith, millis_at_is t)) in
    rw value at (date_and_time (date_text n) (codes "T") (clock_text (millis_at t)) (codes "Z") (year_at n) (month_of_year_at n) (day_of_month_at n) (millis_at t) (pos 0)
    (date_text-spells n high) (is_date-of_day n) letter (clock_text-spells (millis_at t) (millis_bound t)) utc)

instant_text-calendar : (t : ℤ) → IsInstant t → instant_text t ≡ calendar_text t
unfolding instant_text
instant_text-calendar t h =
    let other : int_eq t eternity_start ≡ false = grind (arith, ints) in
    rw other refl

pub read_back : (t : ℤ) → IsInstant t → instant_of (instant_text t) ≡ Ok t
read_back t h =
    rw (instant_text-calendar t h) (instant_of-reads (calendar_text t) t (calendar_text-spells t h) ∙ in_range-inside t h)
