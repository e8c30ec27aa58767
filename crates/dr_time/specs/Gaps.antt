-- The times of an interval that others lack. No public contract cites this file.
use Rattle.std.specs.Prelude.{◌≡◌, true, not, List, ℤ}
use Rattle.dr_time.specs.declared.interval.Interval.{Interval}
use Rattle.dr_time.specs.Interval.{holds_time}
use Rattle.dr_time.specs.Union.{union_holds}

-- of the times of an interval, they hold those that others lack
abbrev pub AreGaps : Interval → List Interval → List Interval → Type 0
AreGaps within is gaps = (t : ℤ) → holds_time within t ≡ true → union_holds gaps t ≡ not (union_holds is t)
