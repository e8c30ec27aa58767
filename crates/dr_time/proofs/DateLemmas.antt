-- A day number has one date.
use Rattle.std.proofs.Common.{◌≡◌, ℕ, ◌+◌, ◌-◌, ◌/◌, ◌%◌, ◌≤◌, true, refl, sym, ap, ◌∙◌, arith, pos}
use Rattle.std.proofs.lemmas.Bool.Decides.{nat_tests}
use Rattle.jiff_core.proofs.SignedLemmas.{signed_arith}
use Rattle.jiff_core.proofs.CalendarLemmas.{day_count-epoch}
use Rattle.dr_time.specs.Calendar.{is_date, days_of_month, month_number, month_length, days_before, month_at, day_number, days_before_1970}
use Rattle.dr_time.proofs.CalendarLemmas.{days_before-suc, day_count-days_before, month_at_is}

pub record IsDate (y m d : ℕ) : Type 0 where
  pub low : 1 ≤ m
  pub high : m ≤ 12
  pub first : 1 ≤ d
  pub last : d ≤ days_of_month y m

pub IsDate-is_date : (y m d : ℕ) → is_date y m d ≡ true → IsDate y m d
IsDate-is_date y m d h = record { low = grind (arith, nat_tests); high = grind (arith, nat_tests); first = grind (arith, nat_tests); last = grind (arith, nat_tests) }

-- the month of a date's day is the date's month
pub month_at-date : (y m d : ℕ) → IsDate y m d → month_at (days_before (month_number y m) + (d - 1)) ≡ month_number y m
month_at-date y m d h =
    let k = month_number y m in
    let year_is : k / 12 ≡ y = omega (arith, h.low, h.high) in
    let month_is : k % 12 + 1 ≡ m = omega (arith, h.low, h.high) in
    let long : month_length k ≡ days_of_month y m = rw (year_is, month_is) refl in
    month_at_is (days_before k + (d - 1)) k (omega arith) (omega (arith, days_before-suc k, h.first, h.last))

pub days_before-1970 : days_before (month_number 1970 1) ≡ days_before_1970
days_before-1970 = omega (arith, day_count-days_before (month_number 1970 1), day_count-epoch)

pub day_number-1970 : day_number 1970 1 1 ≡ pos 0
day_number-1970 = omega (arith, signed_arith, days_before-1970)

pub day_number_injective : (y m d year month day : ℕ) → is_date y m d ≡ true → is_date year month day ≡ true → day_number y m d ≡ day_number year month day → (y ≡ year) × (m ≡ month) × (d ≡ day)
day_number_injective y m d year month day h k e =
    let one = IsDate-is_date y m d h in
    let other = IsDate-is_date year month day k in
    let same : days_before (month_number y m) + (d - 1) ≡ days_before (month_number year month) + (day - 1) = omega (arith, signed_arith) in
    let month_is : month_number y m ≡ month_number year month = sym (month_at-date y m d one) ∙ ap month_at same ∙ month_at-date year month day other in
    let days : days_before (month_number y m) ≡ days_before (month_number year month) = ap days_before month_is in
    (omega (arith, one.low, one.high, other.low, other.high), omega (arith, one.low, one.high, other.low, other.high), omega (arith, one.first, other.first))
