-- The times that lie in both of two intervals, or of two unions of them, and those of a union that another one lacks.
use Rattle.std.specs.Prelude.{◌≡◌, ◌&&◌, not, List, ℤ}
use Rattle.std.specs.Int.{int_max, int_min}
use Rattle.dr_time.specs.declared.interval.Interval.{Interval}
use Rattle.dr_time.specs.Union.{union_holds}

-- the times that two intervals hold both
abbrev pub shared_with : Interval → Interval → Interval
shared_with a b = record { start = int_max a.start b.start; end = int_min a.end b.end }

-- a union holds the times that two others hold both
abbrev pub AreShared : List Interval → List Interval → List Interval → Type 0
AreShared is js shared = (t : ℤ) → union_holds shared t ≡ union_holds is t && union_holds js t

-- a union holds the times of one that another one lacks
abbrev pub AreLeft : List Interval → List Interval → List Interval → Type 0
AreLeft is js left = (t : ℤ) → union_holds left t ≡ union_holds is t && not (union_holds js t)
