-- What a hole `{n:02}` writes, and the texts that are made of such holes.
use Rattle.std.proofs.Common.{◌≡◌, ℕ, ◌+◌, ◌-◌, ◌≤◌, arith, ◌/◌, ◌%◌, ◌^◌, false, List, [], ◌++◌, length, replicate, codes, Option, Some, Result, IfOk, IfSome, ℤ, pos, negsuc, refl, append_assoc}
use Rattle.std.proofs.lemmas.List.{append-nil}
use Rattle.std.proofs.Math.Nat.{sub-zero}
use Rattle.std.proofs.lemmas.Result.{IfOk-weaker}
use Rattle.std.specs.Int.{int_rem_euclid}
use Rattle.std.proofs.lemmas.Fmt.{decimal_digit, decimal_step}
use Rattle.dr_time.specs.Instant.{day_millis}
use Rattle.dr_time.proofs.DigitLemmas.{zero_padded-two}
use Rattle.std.specs.Fmt.{decimal, styled_decimal, padded_integral, char_count, format_spec}
use Rattle.dr_time.specs.Printed.{zero_padded, date_text, clock_text, calendar_text, day_number_at, millis_at}
use Rattle.dr_time.specs.Calendar.{days_before, month_at, year_at, month_of_year_at, day_of_month_at, since_year_zero}
use Rattle.dr_time.proofs.CalendarLemmas.{days_before-suc, days_before-10000, month_at_is}

-- a number under the flag `0`
padded_integral-zeros : (width precision : ℕ) (numeral : List ℕ) → padded_integral (format_spec 32 0 4 width precision) false [] numeral ≡ replicate (width - length numeral) 48 ++ numeral
unfolding padded_integral char_count
padded_integral-zeros width precision numeral = rw (sub-zero, sub-zero, append-nil) refl

pub styled_two : (n : ℕ) → styled_decimal (format_spec 32 0 4 2 (2 ^ 64 - 1)) n ≡ zero_padded 2 n
styled_two n = padded_integral-zeros 2 (2 ^ 64 - 1) (decimal n)

pub styled_three : (n : ℕ) → styled_decimal (format_spec 32 0 4 3 (2 ^ 64 - 1)) n ≡ zero_padded 3 n
styled_three n = padded_integral-zeros 3 (2 ^ 64 - 1) (decimal n)

pub styled_four : (n : ℕ) → styled_decimal (format_spec 32 0 4 4 (2 ^ 64 - 1)) n ≡ zero_padded 4 n
styled_four n = padded_integral-zeros 4 (2 ^ 64 - 1) (decimal n)

-- a text that was formatted is the text that its holes give
pub formatted : {T E : Type 0} (r : Result T E) (bytes : T → List ℕ) (o : Option (List ℕ)) (text : List ℕ) → IfOk r (λ s. IfSome o (λ bs. bytes s ≡ bs)) → o ≡ Some text → IfOk r (λ s. bytes s ≡ text)
formatted r bytes o text h e =
    IfOk-weaker r (λ s. IfSome o (λ bs. bytes s ≡ bs)) (λ s. bytes s ≡ text) (λ s k. rw e at k) h

pub clock_text-pieces : (millis : ℕ) (hour minute second fraction : List ℕ) → hour ≡ zero_padded 2 (millis / 3_600_000) → minute ≡ zero_padded 2 (millis / 60_000 % 60) → second ≡ zero_padded 2 (millis / 1_000 % 60) → fraction ≡ zero_padded 3 (millis % 1_000) → hour ++ (codes ":" ++ (minute ++ (codes ":" ++ (second ++ (codes "." ++ fraction))))) ≡ clock_text millis
unfolding clock_text
clock_text-pieces millis hour minute second fraction h m s f = rw (h, m, s, f) (simp append_assoc)

pub date_text-pieces : (n : ℕ) (year month day : List ℕ) → year ≡ zero_padded 4 (year_at n) → month ≡ zero_padded 2 (month_of_year_at n) → day ≡ zero_padded 2 (day_of_month_at n) → year ++ (codes "-" ++ (month ++ (codes "-" ++ day))) ≡ date_text n
unfolding date_text
date_text-pieces n year month day y m d = rw (y, m, d) (simp append_assoc)

pub calendar_text-pieces : (t : ℤ) (date clock : List ℕ) → date ≡ date_text (since_year_zero (day_number_at t)) → clock ≡ clock_text (millis_at t) → date ++ (codes "T" ++ (clock ++ codes "Z")) ≡ calendar_text t
unfolding calendar_text
calendar_text-pieces t date clock d c = rw (d, c) (simp append_assoc)

-- the milliseconds since midnight are no negative number
pub millis_at_is : (t : ℤ) → int_rem_euclid t (pos day_millis) ≡ pos (millis_at t)
millis_at_is (pos n) = refl
millis_at_is (negsuc n) = refl

-- ---- the dates of January of the year 10000

decimal-10000 : decimal 10_000 ≡ codes "10000"
decimal-10000 =
    rw (decimal_step 10_000 (omega arith) (omega arith), decimal_step 1_000 (omega arith) (omega arith), decimal_step 100 (omega arith) (omega arith), decimal_step 10 (omega arith) (omega arith), decimal_digit 1 (omega arith)) refl

pub date_text-late : (day : ℕ) (digits : List ℕ) → 1 ≤ day → day ≤ 31 → digits ≡ zero_padded 2 day → codes "10000-01-" ++ digits ≡ date_text (3_652_424 + day)
unfolding date_text
date_text-late day digits low high e =
    let month : month_at (3_652_424 + day) ≡ 120_000 = month_at_is (3_652_424 + day) 120_000 (omega (arith, days_before-10000)) (omega (arith, days_before-10000, days_before-suc 120_000)) in
    let place : 3_652_424 + day - days_before 120_000 + 1 ≡ day = omega (arith, days_before-10000) in
    rw (month, place, e, decimal-10000, zero_padded-two 1 (omega arith)) refl
