-- Which granularity nests in which, as a query granularity does in a segment granularity (Apache Druid documentation,
-- ingestion spec, `granularitySpec`; the table is this project's own).
use Rattle.std.specs.Prelude.{◌≡◌, ℕ, ◌==◌, ◌%◌, Bool, true, false, List, [], ◌∷◌, ℤ, ◌≤ℤ◌}
use Rattle.std.specs.List.{list_any}
use Rattle.dr_gran.specs.declared.gran.Gran.{Gran}
use Rattle.dr_gran.specs.declared.gran.Gran.TheVariants.{AllTime, Millisecond, Second, Minute, FiveMinute, TenMinute, FifteenMinute, ThirtyMinute, Hour, SixHour, EightHour, Day, Week, Month, Quarter, Year}
use Rattle.dr_time.specs.Instant.{day_millis, first_instant}
use Rattle.dr_gran.specs.declared.step.Step.{Step}
use Rattle.dr_gran.specs.declared.step.Step.TheVariants.{Millis, Months}
use Rattle.dr_gran.specs.Truncation.{truncation}

abbrev pub from_day : List Gran
from_day = Day ∷ Week ∷ Month ∷ Quarter ∷ Year ∷ []

abbrev pub from_hour : List Gran
from_hour = Hour ∷ SixHour ∷ EightHour ∷ from_day

abbrev pub from_minute : List Gran
from_minute = Minute ∷ FiveMinute ∷ TenMinute ∷ FifteenMinute ∷ ThirtyMinute ∷ from_hour

-- the place of a granularity among all
abbrev pub place : Gran → ℕ
place AllTime = 0
place Millisecond = 1
place Second = 2
place Minute = 3
place FiveMinute = 4
place TenMinute = 5
place FifteenMinute = 6
place ThirtyMinute = 7
place Hour = 8
place SixHour = 9
place EightHour = 10
place Day = 11
place Week = 12
place Month = 13
place Quarter = 14
place Year = 15

abbrev pub same : Gran → Gran → Bool
same g h = place g == place h

-- the granularities in which each nests
abbrev pub coarser : Gran → List Gran
coarser AllTime = []
coarser Millisecond = Second ∷ from_minute
coarser Second = Second ∷ from_minute
coarser Minute = from_minute
coarser FiveMinute = FiveMinute ∷ TenMinute ∷ FifteenMinute ∷ ThirtyMinute ∷ from_hour
coarser TenMinute = TenMinute ∷ ThirtyMinute ∷ from_hour
coarser FifteenMinute = FifteenMinute ∷ ThirtyMinute ∷ from_hour
coarser ThirtyMinute = ThirtyMinute ∷ from_hour
coarser Hour = from_hour
coarser SixHour = SixHour ∷ from_day
coarser EightHour = EightHour ∷ from_day
coarser Day = from_day
coarser Week = Week ∷ []
coarser Month = Month ∷ Quarter ∷ Year ∷ []
coarser Quarter = Quarter ∷ Year ∷ []
coarser Year = Year ∷ []

abbrev pub nests : Gran → Gran → Bool
nests fine coarse = list_any (λ g. same g coarse) (coarser fine)

-- a step is a multiple of a finer one; midnights are multiples of what divides a day
abbrev pub divides : Step → Step → Bool
divides (Millis origin fine) (Millis other coarse) = coarse % fine == 0
divides (Millis origin fine) (Months n) = day_millis % fine == 0
divides (Months fine) (Millis other coarse) = false
divides (Months fine) (Months coarse) = coarse % fine == 0

-- ---- what nesting means, for times from 0001-01-01 on

-- truncating to a granularity that nests in another, and then to that other, is truncating to the other
abbrev pub TruncatesThroughNested : Type 0
TruncatesThroughNested =
    (fine coarse : Gran) (t : ℤ) → nests fine coarse ≡ true → first_instant ≤ℤ t → truncation coarse (truncation fine t) ≡ truncation coarse t

-- each bucket of the finer lies in one bucket of the coarser: times of one are times of one
abbrev pub LiesInOneCoarserBucket : Type 0
LiesInOneCoarserBucket =
    (fine coarse : Gran) (t u : ℤ) → nests fine coarse ≡ true → first_instant ≤ℤ t → first_instant ≤ℤ u
    → truncation fine t ≡ truncation fine u → truncation coarse t ≡ truncation coarse u
