-- How the calendar of this crate lies to that of jiff, whose years are signed and begin at -9999.
use Rattle.std.proofs.Common.{◌≡◌, ℕ, zero, suc, ◌+◌, ◌-◌, ◌*◌, ◌/◌, ◌%◌, ◌<◌, ◌≤◌, inl, inr, true, Ok, refl, sym, ap, ◌∙◌, arith, ℤ, pos, negsuc, neg_ℤ, ◌≤ℤ◌, unsigned_abs, ◌+ℤ◌}
use Rattle.std.proofs.lemmas.Bool.{cases_lt}
use Rattle.std.proofs.lemmas.Bool.Decides.{nat_tests}
use Rattle.jiff_core.specs.Calendar.{IsDate, IsCivilDate, day_count, days_from_civil}
use Rattle.jiff_core.proofs.SignedLemmas.{signed_arith}
use Rattle.jiff_core.specs.declared.civil.date.Date.{Date}
use Rattle.jiff_core.specs.Date.{epoch_day}
use Rattle.jiff_core.proofs.DateLemmas.{civil}
use Rattle.jiff_core.proofs.MarchLemmas.{day_count-early}
use Rattle.jiff_core.proofs.CalendarLemmas.{days_from_civil-day_count, day_count-day, day_count-next_month, day_count-next_year, day_count-last_of_year, day_count-lt_year, day_count-end}
use Rattle.dr_time.specs.Instant.{day_of}
use Rattle.dr_time.specs.Calendar.{is_date, days_of_month, month_number, month_length, days_before, last_month, month_at, year_at, month_of_year_at, day_of_month_at, since_year_zero, first_day, days_before_1970, day_number}

-- jiff counts the days of the 10000 years before the year 0 too
pub day_count-year_zero : day_count (pos 0) 1 1 ≡ 3_652_425
day_count-year_zero = day_count-early (pos 0) 9999 1 1 refl (omega arith) (omega arith) (omega arith)

pub days_before-suc : (k : ℕ) → days_before (suc k) ≡ days_before k + month_length k
unfolding days_before
days_before-suc k = refl

pub days_before-zero : days_before 0 ≡ 0
unfolding days_before
days_before-zero = refl

day_count-december : (y : ℕ) → day_count (pos (suc y)) 1 1 ≡ day_count (pos y) 12 1 + 31
day_count-december y =
    omega (arith, signed_arith, day_count-next_year (pos y) (pos (suc y)) (omega (arith, signed_arith)) (omega (arith, signed_arith)), day_count-last_of_year (pos y), day_count-day (pos y) 12 31 1 (omega arith) (omega arith))

-- the count at the first of a month, by the month's year and place
day_count-step : (k y m : ℕ) → k ≡ 12 * y + m → m < 12 → day_count (pos y) (m + 1) 1 ≡ days_before k + 3_652_425 → day_count (pos (suc k / 12)) (suc k % 12 + 1) 1 ≡ days_before (suc k) + 3_652_425
day_count-step k y m e lt h =
    let here : month_length k ≡ days_of_month y (m + 1) =
    let year : k / 12 ≡ y = omega arith in
    let month : k % 12 ≡ m = omega arith in
    rw (year, month) refl in
    elim (cases_lt m 11) [
      | inl same ↦
          let year : suc k / 12 ≡ y = omega arith in
          let month : suc k % 12 ≡ m + 1 = omega arith in
          rw (year, month) (omega (arith, days_before-suc k, day_count-next_month (pos y) (m + 1) (omega arith)))
      | inr last ↦
          let year : suc k / 12 ≡ suc y = omega arith in
          let month : suc k % 12 ≡ 0 = omega arith in
          let december : m + 1 ≡ 12 = omega arith in
          let length_is : month_length k ≡ 31 = rw december at here in
          let count = rw december at h in
          rw (year, month) (omega (arith, days_before-suc k, day_count-december y))
    ]

pub day_count-days_before : (k : ℕ) → day_count (pos (k / 12)) (k % 12 + 1) 1 ≡ days_before k + 3_652_425
day_count-days_before zero = rw days_before-zero day_count-year_zero
day_count-days_before (suc k) =
    day_count-step k (k / 12) (k % 12) (omega arith) (omega arith) (day_count-days_before k)

-- the day number of a date is jiff's
pub days_from_civil-day_number : (y m d : ℕ) → 1 ≤ m → m ≤ 12 → 1 ≤ d → days_from_civil (pos y) m d ≡ day_number y m d
days_from_civil-day_number y m d low high first =
    let year : month_number y m / 12 ≡ y = omega arith in
    let month : month_number y m % 12 + 1 ≡ m = omega arith in
    let count = rw (year, month) at (day_count-days_before (month_number y m)) in
    omega (arith, signed_arith, days_from_civil-day_count (pos y) m d, day_count-day (pos y) m d 1 first (omega arith))

-- a date that jiff has, in a year from 0 on, is one of this calendar
pub is_date-IsDate : (y m d : ℕ) → IsDate (pos y) (pos m) (pos d) → is_date y m d ≡ true
is_date-IsDate y m d h =
    let low : 1 ≤ m = omega (arith, signed_arith) in
    let high : m ≤ 12 = omega (arith, signed_arith) in
    let first : 1 ≤ d = omega (arith, signed_arith) in
    let last : d ≤ days_of_month y m = omega (arith, signed_arith, h.2.1) in
    grind (arith, nat_tests)

-- and it has jiff's day number
pub day_of-IsDate : (y m d : ℕ) (n : ℤ) → IsDate (pos y) (pos m) (pos d) → n ≡ days_from_civil (pos y) m d → Ok n ≡ day_of y m d
day_of-IsDate y m d n h e =
    let low : 1 ≤ m = omega (arith, signed_arith) in
    let high : m ≤ 12 = omega (arith, signed_arith) in
    let first : 1 ≤ d = omega (arith, signed_arith) in
    rw (is_date-IsDate y m d h) (ap Ok (e ∙ days_from_civil-day_number y m d low high first))

-- ---- the month of a day

pub month_length_bounds : (k : ℕ) → (28 ≤ month_length k) × (month_length k ≤ 31)
month_length_bounds k = grind arith

days_before-add : (k j : ℕ) → days_before k ≤ days_before (j + k)
days_before-add k zero = let same : 0 + k ≡ k = omega arith in rw same (omega arith)
days_before-add k (suc j) =
    let next : suc j + k ≡ suc (j + k) = omega arith in
    rw next (omega (arith, days_before-add k j, days_before-suc (j + k)))

-- a later month begins later
pub days_before-mono : (k j : ℕ) → k ≤ j → days_before k ≤ days_before j
days_before-mono k j h = let same : j - k + k ≡ j = omega arith in rw same at (days_before-add k (j - k))

-- a month begins after 28 days at least of each month before it
pub days_before-low : (k : ℕ) → 28 * k ≤ days_before k
days_before-low zero = omega arith
days_before-low (suc k) = omega (arith, days_before-low k, days_before-suc k, month_length_bounds k)

last_month-zero : (n : ℕ) → last_month n 0 ≡ 0
unfolding last_month
last_month-zero n = refl

last_month-stays : (n limit : ℕ) → days_before (suc limit) ≤ n → last_month n (suc limit) ≡ suc limit
unfolding last_month
last_month-stays n limit le = grind (arith, nat_tests)

last_month-goes_on : (n limit : ℕ) → n < days_before (suc limit) → last_month n (suc limit) ≡ last_month n limit
unfolding last_month
last_month-goes_on n limit lt = grind (arith, nat_tests)

last_month_is : (n k limit : ℕ) → k ≤ limit → days_before k ≤ n → n < days_before (suc k) → last_month n limit ≡ k
last_month_is n k zero within low high = omega (arith, last_month-zero n)
last_month_is n k (suc limit) within low high =
    elim (cases_lt n (days_before (suc limit))) [
      | inl lt ↦
          let earlier : k ≤ limit = elim (cases_lt limit k) [
            | inl past ↦ let same : k ≡ suc limit = omega arith in absurd (omega (arith, ap days_before same))
            | inr le ↦ le
          ] in
          last_month-goes_on n limit lt ∙ last_month_is n k limit earlier low high
      | inr le ↦
          let last : k ≡ suc limit = elim (cases_lt k (suc limit)) [
            | inl before ↦ absurd (omega (arith, days_before-mono (suc k) (suc limit) before))
            | inr past ↦ omega arith
          ] in
          last_month-stays n limit le ∙ sym last
    ]

-- the month in which a day lies is the only one that begins not after it and ends after it
pub month_at_is : (n k : ℕ) → days_before k ≤ n → n < days_before (suc k) → month_at n ≡ k
month_at_is n k low high = last_month_is n k (n / 28) (omega (arith, days_before-low k)) low high

last_month_low : (n limit : ℕ) → days_before (last_month n limit) ≤ n
last_month_low n zero = rw (last_month-zero n, days_before-zero) (omega arith)
last_month_low n (suc limit) =
    elim (cases_lt n (days_before (suc limit))) [
      | inl lt ↦ rw (last_month-goes_on n limit lt) (last_month_low n limit)
      | inr le ↦ rw (last_month-stays n limit le) le
    ]

last_month_high : (n limit : ℕ) → n < days_before (suc limit) → n < days_before (suc (last_month n limit))
last_month_high n zero h = rw (last_month-zero n) h
last_month_high n (suc limit) h =
    elim (cases_lt n (days_before (suc limit))) [
      | inl lt ↦ rw (last_month-goes_on n limit lt) (last_month_high n limit lt)
      | inr le ↦ rw (last_month-stays n limit le) h
    ]

-- it begins not after the day
pub month_at-low : (n : ℕ) → days_before (month_at n) ≤ n
month_at-low n = last_month_low n (n / 28)

-- and ends after it
pub month_at-high : (n : ℕ) → n < days_before (suc (month_at n))
month_at-high n = last_month_high n (n / 28) (omega (arith, days_before-low (suc (n / 28))))

-- ---- the date of a day

-- the parts of a date that jiff has, from its day number
pub date_parts : (y : ℤ) (m d n : ℕ) → IsCivilDate y m d → days_from_civil y m d +ℤ pos days_before_1970 ≡ pos n → (y ≡ pos (year_at n)) × (m ≡ month_of_year_at n) × (d ≡ day_of_month_at n)
date_parts (negsuc y) m d n h e =
    absurd (omega (arith, signed_arith, day_count-year_zero, days_from_civil-day_count (negsuc y) m d, day_count-lt_year (negsuc y) m d (pos 0) 1 1 h (omega arith) (omega (arith, signed_arith))))
date_parts (pos y) m d n h e =
    let k = month_number y m in
    let number = days_from_civil-day_number y m d h.1.0 h.1.1 h.2.0 in
    let day : n ≡ days_before k + (d - 1) = omega (arith, signed_arith) in
    let year_is : k / 12 ≡ y = omega (arith, h.1.0, h.1.1) in
    let month_is : k % 12 + 1 ≡ m = omega (arith, h.1.0, h.1.1) in
    let long : month_length k ≡ days_of_month y m = rw (year_is, month_is) refl in
    let month : month_at n ≡ k = month_at_is n k (omega arith) (omega (arith, days_before-suc k, h.2.0, h.2.1)) in
    rw (month, year_is, month_is) (refl, refl, omega (arith, h.2.0))

absolute : (z : ℤ) → pos 0 ≤ℤ z → z ≡ pos (unsigned_abs z)
absolute (pos n) h = refl
absolute (negsuc n) h = absurd (omega (arith, signed_arith))

pub since_year_zero_is : (day : ℤ) → neg_ℤ (pos days_before_1970) ≤ℤ day → day +ℤ pos days_before_1970 ≡ pos (since_year_zero day)
since_year_zero_is day low = absolute (day +ℤ pos days_before_1970) (omega (arith, signed_arith))

-- the same of a date with a day number that is not before the year 0
pub date_parts-since : (date : Date) (day : ℤ) → neg_ℤ (pos days_before_1970) ≤ℤ day → epoch_day date ≡ day → (date.year ≡ pos (year_at (since_year_zero day))) × (date.month ≡ month_of_year_at (since_year_zero day)) × (date.day ≡ day_of_month_at (since_year_zero day))
date_parts-since date day low e =
    date_parts date.year date.month date.day (since_year_zero day) (civil date) (ap (λ z. z +ℤ pos days_before_1970) e ∙ since_year_zero_is day low)

-- ---- the first day of a month

pub days_before-10000 : days_before 120_000 ≡ 3_652_425
days_before-10000 = omega (arith, day_count-days_before 120_000, day_count-end)

pub first_day-10000 : (k : ℕ) → k ≡ 120_000 → pos 2_932_897 ≡ first_day k
first_day-10000 k e = omega (arith, signed_arith, ap days_before e, days_before-10000)

pub first_day-days_from_civil : (k : ℕ) → days_from_civil (pos (k / 12)) (k % 12 + 1) 1 ≡ first_day k
first_day-days_from_civil k =
    let month : month_number (k / 12) (k % 12 + 1) ≡ k = omega arith in
    let number = days_from_civil-day_number (k / 12) (k % 12 + 1) 1 (omega arith) (omega arith) (omega arith) in
    omega (arith, signed_arith, number, ap days_before month)
