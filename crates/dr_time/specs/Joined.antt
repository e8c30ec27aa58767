-- Intervals in which each time of a union stands once. No public contract cites this file.
use Rattle.std.specs.Prelude.{◌≡◌, List, [], ◌∷◌, ℤ, ◌<ℤ◌, ◌≤ℤ◌, int_lt, Option, Some, None, if◌then◌else◌}
use Rattle.std.specs.Int.{int_max}
use Rattle.std.specs.List.{AllByRecursion}
use Rattle.dr_time.specs.declared.interval.Interval.{Interval}
use Rattle.dr_time.specs.Union.{union_holds}

-- each holds a time, and ends before all behind it start
abbrev pub AreApart : List Interval → Type 0
AreApart [] = Unit {0}
AreApart (i ∷ is) = (i.start <ℤ i.end) × AllByRecursion (λ j. i.end <ℤ j.start) is × AreApart is

-- none starts before one that stands before it
abbrev pub Rise : List Interval → Type 0
Rise [] = Unit {0}
Rise (i ∷ is) = AllByRecursion (λ j. i.start ≤ℤ j.start) is × Rise is

-- they hold the same times
abbrev pub HoldSame : List Interval → List Interval → Type 0
HoldSame is js = (t : ℤ) → union_holds is t ≡ union_holds js t

-- both as one, where the second starts before the first one ends, or just then
abbrev pub longer : Interval → Interval → Option Interval
longer i next = if int_lt i.end next.start then None else Some (record { start = i.start; end = int_max i.end next.end })
