-- The bucket in which a time lies, by its start and the start of the next one (Apache Druid documentation, query
-- granularities).
use Rattle.std.specs.Prelude.{◌≡◌, ℕ, ◌+◌, ◌*◌, ◌/◌, ℤ, pos, neg_ℤ, ◌+ℤ◌, ◌-ℤ◌, ◌*ℤ◌, ◌≤ℤ◌, ◌<ℤ◌}
use Rattle.std.specs.Int.{int_div_euclid}
use Rattle.dr_time.specs.Calendar.{month_at, since_year_zero}
use Rattle.dr_time.specs.Printed.{day_number_at}
use Rattle.dr_gran.specs.declared.gran.Gran.{Gran}
use Rattle.dr_gran.specs.declared.step.Step.{Step}
use Rattle.dr_gran.specs.declared.step.Step.TheVariants.{Millis, Months}
use Rattle.dr_gran.specs.Step.{step_of, month_start, IsStart}

-- the number of the month in which a time lies
abbrev pub month_of : ℤ → ℕ
month_of t = month_at (since_year_zero (day_number_at t))

-- the start of the bucket; divisions round down, also before 1970
abbrev pub truncated : Step → ℤ → ℤ
truncated (Millis origin length) t = origin +ℤ int_div_euclid (t -ℤ origin) (pos length) *ℤ pos length
truncated (Months n) t = month_start (month_of t / n * n)

-- the start of the next one
abbrev pub following : Step → ℤ → ℤ
following (Millis origin length) t = truncated (Millis origin length) t +ℤ pos length
following (Months n) t = month_start (month_of t / n * n + n)

-- the bucket of all times has neither, and those of a millisecond stand in their place
abbrev pub truncation : Gran → ℤ → ℤ
truncation g t = truncated (step_of g) t

abbrev pub next : Gran → ℤ → ℤ
next g t = following (step_of g) t

-- ---- what they are

-- the greatest start of a bucket that is not after t
pub record IsTruncation (g : Gran) (t s : ℤ) : Type 0 where
  pub starts : IsStart g s
  pub not_after : s ≤ℤ t
  pub greatest : (u : ℤ) → IsStart g u → u ≤ℤ t → u ≤ℤ s

-- the least start of a bucket after t
pub record IsNext (g : Gran) (t s : ℤ) : Type 0 where
  pub starts : IsStart g s
  pub after : t <ℤ s
  pub least : (u : ℤ) → IsStart g u → t <ℤ u → s ≤ℤ u

-- 0000-01-01T00:00:00.000Z
abbrev pub year_zero : ℤ
year_zero = neg_ℤ (pos 62_167_219_200_000)

-- from the year 0 on, the truncation of a time is that start
abbrev pub TruncatesToGreatestStart : Type 0
TruncatesToGreatestStart = (g : Gran) (t : ℤ) → year_zero ≤ℤ t → IsTruncation g t (truncation g t)

-- and the next start is this one
abbrev pub EndsAtLeastStart : Type 0
EndsAtLeastStart = (g : Gran) (t : ℤ) → year_zero ≤ℤ t → IsNext g t (next g t)

-- each time lies in the bucket of its truncation alone: a bucket that holds it starts at its truncation
abbrev pub LiesInOneBucket : Type 0
LiesInOneBucket =
    (g : Gran) (t s : ℤ) → year_zero ≤ℤ s → IsStart g s → s ≤ℤ t → t <ℤ next g s → s ≡ truncation g t
