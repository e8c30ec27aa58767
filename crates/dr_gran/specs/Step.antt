-- How the buckets of a granularity follow one another (Apache Druid documentation, query granularities). All are in UTC.
use Rattle.std.specs.Prelude.{◌≡◌, ℕ, ◌*◌, ◌<◌, Bool, true, false, ℤ, pos, ◌+ℤ◌, ◌*ℤ◌}
use Rattle.dr_time.specs.Calendar.{first_day}
use Rattle.dr_time.specs.Instant.{day_millis}
use Rattle.dr_gran.specs.declared.gran.Gran.{Gran}
use Rattle.dr_gran.specs.declared.gran.Gran.TheVariants.{AllTime, Millisecond, Second, Minute, FiveMinute, TenMinute, FifteenMinute, ThirtyMinute, Hour, SixHour, EightHour, Day, Week, Month, Quarter, Year}
use Rattle.dr_gran.specs.declared.step.Step.{Step}
use Rattle.dr_gran.specs.declared.step.Step.TheVariants.{Millis, Months}

-- one bucket of all times, which has neither a start nor an end
abbrev pub is_all : Gran → Bool
is_all AllTime = true
is_all _ = false

abbrev pub epoch : ℤ
epoch = pos 0

-- 2001-01-01T00:00:00.000Z, a Monday
abbrev pub monday : ℤ
monday = pos 978_307_200_000

-- from a second to a day the buckets are counted from the epoch, weeks from a Monday, months from January of the year 0;
-- the bucket of all times has no step, and that of a millisecond stands in its place
abbrev pub step_of : Gran → Step
step_of AllTime = Millis epoch 1
step_of Millisecond = Millis epoch 1
step_of Second = Millis epoch 1_000
step_of Minute = Millis epoch 60_000
step_of FiveMinute = Millis epoch 300_000
step_of TenMinute = Millis epoch 600_000
step_of FifteenMinute = Millis epoch 900_000
step_of ThirtyMinute = Millis epoch 1_800_000
step_of Hour = Millis epoch 3_600_000
step_of SixHour = Millis epoch 21_600_000
step_of EightHour = Millis epoch 28_800_000
step_of Day = Millis epoch 86_400_000
step_of Week = Millis monday 604_800_000
step_of Month = Months 1
step_of Quarter = Months 3
step_of Year = Months 12

-- the length of a step isn't 0
abbrev pub IsProper : Step → Type 0
IsProper (Millis origin length) = 0 < length
IsProper (Months n) = 0 < n

-- the midnight before the first day of a month, by the month's number
abbrev pub month_start : ℕ → ℤ
month_start k = first_day k *ℤ pos day_millis

-- a bucket starts here
abbrev pub StartsStep : Step → ℤ → Type 0
StartsStep (Millis origin length) t = (k : ℤ) × (t ≡ origin +ℤ k *ℤ pos length)
StartsStep (Months n) t = (k : ℕ) × (t ≡ month_start (n * k))

abbrev pub IsStart : Gran → ℤ → Type 0
IsStart g t = StartsStep (step_of g) t
