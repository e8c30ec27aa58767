-- The buckets of a granularity that hold a millisecond both of a union of intervals and of a span of times (Apache Druid
-- documentation, timeseries queries; which empty buckets are filled is this project's own rule).
use Rattle.std.specs.Prelude.{◌≡◌, ℕ, zero, suc, ◌≤◌, true, ◌⊎◌, if◌then◌else◌, List, [], ◌∷◌, length, take, ℤ, ◌≤ℤ◌, ◌<ℤ◌, int_le, Option, Some, None}
use Rattle.std.specs.Option.{option_to_list}
use Rattle.std.specs.List.{AllByRecursion}
use Rattle.dr_time.specs.declared.interval.Interval.{Interval}
use Rattle.dr_time.specs.Instant.{first_instant}
use Rattle.dr_time.specs.Union.{union_holds, union_start, union_first_from}
use Rattle.dr_gran.specs.declared.gran.Gran.{Gran}
use Rattle.dr_gran.specs.Step.{is_all}
use Rattle.dr_gran.specs.Truncation.{truncation, next}

-- ---- what they are

-- the bucket of a time, by its start; that of all times starts where the union does
abbrev pub bucket : Gran → List Interval → ℤ → Option ℤ
bucket g union t = if is_all g then union_start union else Some (truncation g t)

-- a bucket that holds a time of the union from the span's first time to its last, both included
pub record IsFilled (g : Gran) (union : List Interval) (from to b : ℤ) : Type 0 where
  pub time : ℤ
  pub held : union_holds union time ≡ true
  pub not_before : from ≤ℤ time
  pub not_after : time ≤ℤ to
  pub bucket_is : bucket g union time ≡ Some b

-- each number is greater than the one before
abbrev pub Rises : List ℤ → Type 0
Rises [] = Unit {0}
Rises (b ∷ bs) = AllByRecursion (λ c. b <ℤ c) bs × Rises bs

abbrev pub IsAmong : ℤ → List ℤ → Type 0
IsAmong b [] = ⊥
IsAmong b (c ∷ cs) = (b ≡ c) ⊎ IsAmong b cs

-- the first n numbers that have P, rising; all of them, where there are no more than n
pub record AreFirst (n : ℕ) (P : ℤ → Type 0) (bs : List ℤ) : Type 0 where
  pub rising : Rises bs
  pub each : AllByRecursion P bs
  pub most : length bs ≤ n
  pub no_other : (b : ℤ) → P b → IsAmong b bs ⊎ ((length bs ≡ n) × AllByRecursion (λ c. c <ℤ b) bs)

-- ---- which they are

-- the first time of the union that lies in the span
abbrev pub up_to : ℤ → Option ℤ → Option ℤ
up_to to None = None
up_to to (Some t) = if int_le t to then Some t else None

abbrev pub first_common : List Interval → ℤ → ℤ → Option ℤ
first_common union from to = up_to to (union_first_from from union)

abbrev pub where_any : (ℤ → List ℤ) → Option ℤ → List ℤ
where_any buckets None = []
where_any buckets (Some t) = buckets t

-- one bucket after another: behind each the next time is sought from its end
unfoldable pub first_buckets : ℕ → Gran → List Interval → ℤ → ℤ → List ℤ
first_buckets zero g union from to = []
first_buckets (suc n) g union from to =
    where_any (λ t. truncation g t ∷ first_buckets n g union (next g t) to) (first_common union from to)

-- that of all times, where the union and the span meet
abbrev pub all_bucket : List Interval → ℤ → ℤ → List ℤ
all_bucket union from to = where_any (λ t. option_to_list (union_start union)) (first_common union from to)

-- so many of the buckets at most
abbrev pub buckets_of : ℕ → Gran → List Interval → ℤ → ℤ → List ℤ
buckets_of bound g union from to =
    if is_all g then take bound (all_bucket union from to) else first_buckets bound g union from to

-- for a span that begins at 0001-01-01 or later, these are the first of the filled buckets
abbrev pub GivesFirstFilled : Type 0
GivesFirstFilled =
    (bound : ℕ) (g : Gran) (union : List Interval) (from to : ℤ) → first_instant ≤ℤ from
    → AreFirst bound (IsFilled g union from to) (buckets_of bound g union from to)
