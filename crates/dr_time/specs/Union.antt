-- The union of intervals, as the list of them (Apache Druid documentation, native queries, intervals). A time counts once,
-- however many of the intervals hold it.
use Rattle.std.specs.Prelude.{◌≡◌, Bool, true, List, map, ℤ, ◌≤ℤ◌, Option, Some, None}
use Rattle.std.specs.Int.{int_min}
use Rattle.std.specs.List.{list_any, fold}
use Rattle.dr_time.specs.declared.interval.Interval.{Interval}
use Rattle.dr_time.specs.Interval.{holds_time, first_time, first_time_from}

-- one of the intervals holds this time
abbrev pub union_holds : List Interval → ℤ → Bool
union_holds intervals t = list_any (λ i. holds_time i t) intervals

-- each time from one to another, both inside, lies in the union
abbrev pub HoldsAll : List Interval → ℤ → ℤ → Type 0
HoldsAll intervals least greatest = (t : ℤ) → least ≤ℤ t → t ≤ℤ greatest → union_holds intervals t ≡ true

-- the earlier of two times, each of which may be missing
abbrev pub earlier : Option ℤ → Option ℤ → Option ℤ
earlier None b = b
earlier (Some a) None = Some a
earlier (Some a) (Some b) = Some (int_min a b)

-- the earliest of the times that there are
abbrev pub earliest : List (Option ℤ) → Option ℤ
earliest times = fold earlier None times

-- the first time of the union: the least start of the intervals that aren't empty
abbrev pub union_start : List Interval → Option ℤ
union_start intervals = earliest (map first_time intervals)

-- the first time of the union that isn't before this one
abbrev pub union_first_from : ℤ → List Interval → Option ℤ
union_first_from from intervals = earliest (map (first_time_from from) intervals)
