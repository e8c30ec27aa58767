-- Truncation gives the greatest start of a bucket that is not after a time, and the next start is the least one after it.
use Rattle.std.proofs.Common.{◌≡◌, ℕ, suc, ◌+◌, ◌*◌, ◌/◌, ◌<◌, ◌≤◌, refl, ap, arith, inl, inr, ℤ, pos, negsuc, neg_ℤ, ◌+ℤ◌, ◌-ℤ◌, ◌*ℤ◌, ◌≤ℤ◌, ◌<ℤ◌}
use Rattle.std.specs.Int.{int_div_euclid, int_rem_euclid}
use Rattle.std.proofs.lemmas.Bool.{cases_lt}
use Rattle.std.proofs.lemmas.Int.{by_lt_z}
use Rattle.std.proofs.lemmas.Nat.{le-div, mul-le, div-add-mod', mod_below, div_below}
use Rattle.jiff_core.proofs.SignedLemmas.{signed_arith, int_div_euclid-parts, int_rem_euclid-parts}
use borrow.Author.Differences.{up, down}
use Rattle.dr_time.specs.Calendar.{days_before, since_year_zero}
use Rattle.dr_time.specs.Instant.{IsInstant, first_instant, last_instant}
use Rattle.dr_time.specs.Printed.{day_number_at}
use Rattle.dr_time.proofs.CalendarLemmas.{days_before-10000, days_before-mono, month_at-low, month_at-high, since_year_zero_is}
use Rattle.dr_gran.specs.declared.gran.Gran.{Gran}
use Rattle.dr_gran.specs.declared.gran.Gran.TheVariants.{AllTime, Millisecond, Second, Minute, FiveMinute, TenMinute, FifteenMinute, ThirtyMinute, Hour, SixHour, EightHour, Day, Week, Month, Quarter, Year}
use Rattle.dr_gran.specs.declared.step.Step.{Step}
use Rattle.dr_gran.specs.declared.step.Step.TheVariants.{Millis, Months}
use Rattle.dr_gran.specs.Step.{step_of, month_start, StartsStep, IsStart, IsProper}
use Rattle.dr_gran.specs.Truncation.{month_of, truncated, following, truncation, next, IsTruncation, IsNext, year_zero}

-- a greater number times a number that isn't negative is greater
int_mul-mono : (a b : ℤ) (l : ℕ) → a ≤ℤ b → (a *ℤ pos l) ≤ℤ (b *ℤ pos l)
int_mul-mono a b l h =
    omega (arith, signed_arith, mul-le (up a + down b) l (up b + down a) l (omega (arith, signed_arith)) (omega arith))

int_mul-less : (a b : ℤ) (l : ℕ) → a <ℤ b → (a *ℤ pos l +ℤ pos l) ≤ℤ (b *ℤ pos l)
int_mul-less a b l h =
    omega (arith, signed_arith, mul-le (up a + down b + 1) l (up b + down a) l (omega (arith, signed_arith)) (omega arith))

int_mul-suc : (a : ℤ) (l : ℕ) → a *ℤ pos l +ℤ pos l ≡ (a +ℤ pos 1) *ℤ pos l
int_mul-suc a l =
    omega (arith, signed_arith, mul-le (up (a +ℤ pos 1) + down a) l (up a + down (a +ℤ pos 1) + 1) l (omega (arith, signed_arith)) (omega arith), mul-le (up a + down (a +ℤ pos 1) + 1) l (up (a +ℤ pos 1) + down a) l (omega (arith, signed_arith)) (omega arith))

-- ---- buckets of so many milliseconds

-- the quotient that rounds down
record IsFloor (o : ℤ) (l : ℕ) (t q : ℤ) : Type 0 where
  low : (o +ℤ q *ℤ pos l) ≤ℤ t
  high : t <ℤ (o +ℤ q *ℤ pos l +ℤ pos l)

floor_is : (o : ℤ) (l : ℕ) (t : ℤ) → 0 < l → IsFloor o l t (int_div_euclid (t -ℤ o) (pos l))
floor_is o l t h =
    let parts = int_div_euclid-parts (t -ℤ o) l h in
    record { low = omega (arith, signed_arith, parts); high = omega (arith, signed_arith, parts) }

-- a start that is not after t has no greater quotient, and a later one has a greater one
floor_greatest : (o : ℤ) (l : ℕ) (t q k : ℤ) → IsFloor o l t q → (o +ℤ k *ℤ pos l) ≤ℤ t → (o +ℤ k *ℤ pos l) ≤ℤ (o +ℤ q *ℤ pos l)
floor_greatest o l t q k f h =
    by_lt_z q k
    (λ lt. absurd (omega (arith, signed_arith, f.high, int_mul-less q k l lt)))
    (λ le. omega (arith, signed_arith, int_mul-mono k q l le))

floor_least : (o : ℤ) (l : ℕ) (t q k : ℤ) → IsFloor o l t q → t <ℤ (o +ℤ k *ℤ pos l) → (o +ℤ q *ℤ pos l +ℤ pos l) ≤ℤ (o +ℤ k *ℤ pos l)
floor_least o l t q k f h =
    by_lt_z q k
    (λ lt. omega (arith, signed_arith, int_mul-less q k l lt))
    (λ le. absurd (omega (arith, signed_arith, f.low, int_mul-mono k q l le)))

-- ---- buckets of so many months

-- a month begins not after a time exactly where it is not after the time's month
month_start-before : (t : ℤ) (k : ℕ) → year_zero ≤ℤ t → k ≤ month_of t → month_start k ≤ℤ t
month_start-before t k from le =
    let since = since_year_zero_is (day_number_at t) (omega (arith, signed_arith)) in
    omega (arith, signed_arith, days_before-mono k (month_of t) le, month_at-low (since_year_zero (day_number_at t)))

month_start-after : (t : ℤ) (k : ℕ) → year_zero ≤ℤ t → month_of t < k → t <ℤ month_start k
month_start-after t k from lt =
    let since = since_year_zero_is (day_number_at t) (omega (arith, signed_arith)) in
    omega (arith, signed_arith, days_before-mono (suc (month_of t)) k lt, month_at-high (since_year_zero (day_number_at t)))

month_start-mono : (j k : ℕ) → j ≤ k → month_start j ≤ℤ month_start k
month_start-mono j k le = omega (arith, signed_arith, days_before-mono j k le)

-- the greatest multiple of n that is not over m, and the next one
rounded_low : (m n : ℕ) → m / n * n ≤ m
rounded_low m n = omega (arith, div-add-mod' m n)

rounded_high : (m n : ℕ) → 0 < n → m < m / n * n + n
rounded_high m n h = omega (arith, div-add-mod' m n, mod_below m n h)

rounded_greatest : (m n k : ℕ) → 0 < n → n * k ≤ m → n * k ≤ m / n * n
rounded_greatest m n k h le = omega (arith, mul-le k n (m / n) n (le-div k m n h (omega arith)) (omega arith))

rounded_least : (m n k : ℕ) → 0 < n → m < n * k → m / n * n + n ≤ n * k
rounded_least m n k h lt =
    omega (arith, mul-le (m / n + 1) n k n (omega (arith, div_below m n k h (omega arith))) (omega arith))

-- ---- both

truncated_starts : (step : Step) (t : ℤ) → StartsStep step (truncated step t)
truncated_starts (Millis o l) t = (int_div_euclid (t -ℤ o) (pos l), refl)
truncated_starts (Months n) t = (month_of t / n, ap month_start (omega arith))

following_starts : (step : Step) (t : ℤ) → StartsStep step (following step t)
following_starts (Millis o l) t = (int_div_euclid (t -ℤ o) (pos l) +ℤ pos 1, omega (arith, signed_arith, int_mul-suc (int_div_euclid (t -ℤ o) (pos l)) l))
following_starts (Months n) t = (month_of t / n + 1, ap month_start (omega arith))

truncated_low : (step : Step) (t : ℤ) → IsProper step → year_zero ≤ℤ t → truncated step t ≤ℤ t
truncated_low (Millis o l) t h from = (floor_is o l t h).low
truncated_low (Months n) t h from = month_start-before t (month_of t / n * n) from (rounded_low (month_of t) n)

following_high : (step : Step) (t : ℤ) → IsProper step → year_zero ≤ℤ t → t <ℤ following step t
following_high (Millis o l) t h from = (floor_is o l t h).high
following_high (Months n) t h from = month_start-after t (month_of t / n * n + n) from (rounded_high (month_of t) n h)

truncated_greatest : (step : Step) (t u : ℤ) → IsProper step → year_zero ≤ℤ t → StartsStep step u → u ≤ℤ t → u ≤ℤ truncated step t
truncated_greatest (Millis o l) t u h from (k, e) le =
    rw e (floor_greatest o l t (int_div_euclid (t -ℤ o) (pos l)) k (floor_is o l t h) (rw (← e) le))
truncated_greatest (Months n) t u h from (k, e) le =
    rw e (elim (cases_lt (month_of t) (n * k)) [
      | inl lt ↦ let later = month_start-after t (n * k) from lt in absurd (omega (arith, signed_arith, e))
      | inr within ↦ month_start-mono (n * k) (month_of t / n * n) (rounded_greatest (month_of t) n k h within)
    ])

following_least : (step : Step) (t u : ℤ) → IsProper step → year_zero ≤ℤ t → StartsStep step u → t <ℤ u → following step t ≤ℤ u
following_least (Millis o l) t u h from (k, e) lt =
    rw e (floor_least o l t (int_div_euclid (t -ℤ o) (pos l)) k (floor_is o l t h) (rw (← e) lt))
following_least (Months n) t u h from (k, e) lt =
    rw e (elim (cases_lt (month_of t) (n * k)) [
      | inl after ↦ month_start-mono (month_of t / n * n + n) (n * k) (rounded_least (month_of t) n k h after)
      | inr within ↦ let before = month_start-before t (n * k) from within in absurd (omega (arith, signed_arith, e))
    ])

-- each granularity has a proper step
pub proper : (g : Gran) → IsProper (step_of g)
proper AllTime = omega arith
proper Millisecond = omega arith
proper Second = omega arith
proper Minute = omega arith
proper FiveMinute = omega arith
proper TenMinute = omega arith
proper FifteenMinute = omega arith
proper ThirtyMinute = omega arith
proper Hour = omega arith
proper SixHour = omega arith
proper EightHour = omega arith
proper Day = omega arith
proper Week = omega arith
proper Month = omega arith
proper Quarter = omega arith
proper Year = omega arith

pub IsTruncation-truncation : (g : Gran) (t : ℤ) → year_zero ≤ℤ t → IsTruncation g t (truncation g t)
IsTruncation-truncation g t from = record {
  starts = truncated_starts (step_of g) t;
  not_after = truncated_low (step_of g) t (proper g) from;
  greatest = λ u. truncated_greatest (step_of g) t u (proper g) from;
}

pub IsNext-next : (g : Gran) (t : ℤ) → year_zero ≤ℤ t → IsNext g t (next g t)
IsNext-next g t from = record {
  starts = following_starts (step_of g) t;
  after = following_high (step_of g) t (proper g) from;
  least = λ u. following_least (step_of g) t u (proper g) from;
}

pub lies_in_one_bucket : (g : Gran) (t s : ℤ) → year_zero ≤ℤ s → IsStart g s → s ≤ℤ t → t <ℤ next g s → s ≡ truncation g t
lies_in_one_bucket g t s from starts low high =
    let trunc = IsTruncation-truncation g t (omega (arith, signed_arith)) in
    let end = IsNext-next g s from in
    by_lt_z s (truncation g t)
    (λ lt. let past = end.least (truncation g t) trunc.starts lt in let held = trunc.not_after in absurd (omega (arith, signed_arith)))
    (λ le. let before = trunc.greatest s starts low in omega (arith, signed_arith))

-- ---- the first and the last bucket of the times that events have

days_before-12 : days_before 12 ≡ 366
unfolding days_before
days_before-12 = refl

first_month : (k : ℕ) → k ≡ 12 → first_instant ≡ month_start k
first_month k e = omega (arith, signed_arith, ap days_before e, days_before-12)

-- 0001-01-01 begins a bucket of each
first_starts : (g : Gran) → IsStart g first_instant
first_starts AllTime = (negsuc 62_135_596_799_999, refl)
first_starts Millisecond = (negsuc 62_135_596_799_999, refl)
first_starts Second = (neg_ℤ (pos 62_135_596_800), refl)
first_starts Minute = (neg_ℤ (pos 1_035_593_280), refl)
first_starts FiveMinute = (neg_ℤ (pos 207_118_656), refl)
first_starts TenMinute = (neg_ℤ (pos 103_559_328), refl)
first_starts FifteenMinute = (neg_ℤ (pos 69_039_552), refl)
first_starts ThirtyMinute = (neg_ℤ (pos 34_519_776), refl)
first_starts Hour = (neg_ℤ (pos 17_259_888), refl)
first_starts SixHour = (neg_ℤ (pos 2_876_648), refl)
first_starts EightHour = (neg_ℤ (pos 2_157_486), refl)
first_starts Day = (neg_ℤ (pos 719_162), refl)
first_starts Week = (neg_ℤ (pos 104_355), refl)
first_starts Month = (12, first_month 12 refl)
first_starts Quarter = (4, first_month 12 refl)
first_starts Year = (1, first_month 12 refl)

-- the year 10000 begins one, but for weeks, which begin one on its first Monday
record LastEnd (g : Gran) : Type 0 where
  end : ℤ
  starts : IsStart g end
  after : last_instant <ℤ end
  bound : end ≤ℤ pos 253_402_473_600_000

last_month : (k : ℕ) → k ≡ 120_000 → pos 253_402_300_800_000 ≡ month_start k
last_month k e = omega (arith, signed_arith, ap days_before e, days_before-10000)

at_year_10000 : (g : Gran) → IsStart g (pos 253_402_300_800_000) → LastEnd g
at_year_10000 g starts = record { end = pos 253_402_300_800_000; starts = starts; after = omega (arith, signed_arith); bound = omega (arith, signed_arith) }

last_end : (g : Gran) → LastEnd g
last_end AllTime = at_year_10000 AllTime (pos 253_402_300_800_000, refl)
last_end Millisecond = at_year_10000 Millisecond (pos 253_402_300_800_000, refl)
last_end Second = at_year_10000 Second (pos 253_402_300_800, refl)
last_end Minute = at_year_10000 Minute (pos 4_223_371_680, refl)
last_end FiveMinute = at_year_10000 FiveMinute (pos 844_674_336, refl)
last_end TenMinute = at_year_10000 TenMinute (pos 422_337_168, refl)
last_end FifteenMinute = at_year_10000 FifteenMinute (pos 281_558_112, refl)
last_end ThirtyMinute = at_year_10000 ThirtyMinute (pos 140_779_056, refl)
last_end Hour = at_year_10000 Hour (pos 70_389_528, refl)
last_end SixHour = at_year_10000 SixHour (pos 11_731_588, refl)
last_end EightHour = at_year_10000 EightHour (pos 8_798_691, refl)
last_end Day = at_year_10000 Day (pos 2_932_897, refl)
last_end Week = record { end = pos 253_402_473_600_000; starts = (pos 417_368, refl); after = omega (arith, signed_arith); bound = omega (arith, signed_arith) }
last_end Month = at_year_10000 Month (120_000, last_month 120_000 refl)
last_end Quarter = at_year_10000 Quarter (40_000, last_month 120_000 refl)
last_end Year = at_year_10000 Year (10_000, last_month 120_000 refl)

-- no bucket of a time from 0001-01-01 on starts before
pub truncation_low : (g : Gran) (t : ℤ) → first_instant ≤ℤ t → first_instant ≤ℤ truncation g t
truncation_low g t h =
    (IsTruncation-truncation g t (omega (arith, signed_arith))).greatest first_instant (first_starts g) h

-- the bounds of what is the truncation of an instant, and of what is the next start
pub truncation_bounds : (g : Gran) (t s : ℤ) → IsInstant t → s ≡ truncation g t → (first_instant ≤ℤ s) × (s ≤ℤ t)
truncation_bounds g t s h is = rw is (truncation_low g t h.0, (IsTruncation-truncation g t (omega (arith, signed_arith))).not_after)

pub next_bounds : (g : Gran) (t s : ℤ) → IsInstant t → s ≡ next g t → (t <ℤ s) × (s ≤ℤ pos 253_402_473_600_000)
next_bounds g t s h is =
    let following = IsNext-next g t (omega (arith, signed_arith)) in
    let last = last_end g in
    let within = following.least last.end last.starts (omega (arith, signed_arith, last.after)) in
    rw is (following.after, omega (arith, signed_arith, last.bound))

-- ---- what the code computes

pub truncated-rem : (g : Gran) (o : ℤ) (l : ℕ) (t : ℤ) → step_of g ≡ Millis o l → t -ℤ int_rem_euclid (t -ℤ o) (pos l) ≡ truncation g t
truncated-rem g o l t e =
    let positive : 0 < l = rw e at (proper g) in
    rw e (omega (arith, signed_arith, int_rem_euclid-parts (t -ℤ o) l positive))

pub following-rem : (g : Gran) (o : ℤ) (l : ℕ) (t : ℤ) → step_of g ≡ Millis o l → t -ℤ int_rem_euclid (t -ℤ o) (pos l) +ℤ pos l ≡ next g t
following-rem g o l t e =
    let positive : 0 < l = rw e at (proper g) in
    rw e (omega (arith, signed_arith, int_rem_euclid-parts (t -ℤ o) l positive))

-- the numbers of a step are small
abbrev pub IsSmall : Step → Type 0
IsSmall (Millis origin length) = (pos 0 ≤ℤ origin) × (origin ≤ℤ pos 978_307_200_000) × (length ≤ 604_800_000)
IsSmall (Months n) = n ≤ 12

pub step_bounds : (g : Gran) → IsSmall (step_of g)
step_bounds AllTime = (omega (arith, signed_arith), omega (arith, signed_arith), omega arith)
step_bounds Millisecond = (omega (arith, signed_arith), omega (arith, signed_arith), omega arith)
step_bounds Second = (omega (arith, signed_arith), omega (arith, signed_arith), omega arith)
step_bounds Minute = (omega (arith, signed_arith), omega (arith, signed_arith), omega arith)
step_bounds FiveMinute = (omega (arith, signed_arith), omega (arith, signed_arith), omega arith)
step_bounds TenMinute = (omega (arith, signed_arith), omega (arith, signed_arith), omega arith)
step_bounds FifteenMinute = (omega (arith, signed_arith), omega (arith, signed_arith), omega arith)
step_bounds ThirtyMinute = (omega (arith, signed_arith), omega (arith, signed_arith), omega arith)
step_bounds Hour = (omega (arith, signed_arith), omega (arith, signed_arith), omega arith)
step_bounds SixHour = (omega (arith, signed_arith), omega (arith, signed_arith), omega arith)
step_bounds EightHour = (omega (arith, signed_arith), omega (arith, signed_arith), omega arith)
step_bounds Day = (omega (arith, signed_arith), omega (arith, signed_arith), omega arith)
step_bounds Week = (omega (arith, signed_arith), omega (arith, signed_arith), omega arith)
step_bounds Month = omega arith
step_bounds Quarter = omega arith
step_bounds Year = omega arith
