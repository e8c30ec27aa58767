-- Unions of intervals of which all are to hold a time, or one. No public contract cites this file.
use Rattle.std.specs.Prelude.{ℤ, Bool, true, List, Option, Some, None}
use Rattle.std.specs.List.{list_any, list_all}
use Rattle.dr_time.specs.declared.interval.Interval.{Interval}
use Rattle.dr_time.specs.Union.{union_holds}

-- one of some unions of intervals holds this time
abbrev pub some_held : ℤ → List (List Interval) → Bool
some_held time unions = list_any (λ u. union_holds u time) unions

-- all of some unions of intervals hold this time
abbrev pub every_held : ℤ → List (List Interval) → Bool
every_held time unions = list_all (λ u. union_holds u time) unions

-- a time lies in a union, where there is one
abbrev pub is_held : ℤ → Option (List Interval) → Bool
is_held time None = true
is_held time (Some union) = union_holds union time
