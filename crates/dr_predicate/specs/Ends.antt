-- Which of two ends of ranges asks more.
use Rattle.std.specs.Prelude.{ℕ, Bool, true, false, not, List, Option, Some, None}
use Rattle.std.specs.Ordering.{nat_cmp}
use Rattle.std.specs.Cmp.Lexicographic.{slice_cmp}
use Rattle.dr_predicate.specs.Within.{comes_after}

-- a lower end asks more than another one, or as much: it is greater, or the same and strict
abbrev pub starts_behind : Option (List ℕ) → Bool → Option (List ℕ) → Bool
starts_behind None strict other = false
starts_behind (Some lower) strict None = true
starts_behind (Some lower) strict (Some other) = comes_after (slice_cmp nat_cmp lower other) (not strict)

-- an upper end asks more than another one, or as much: it is smaller, or the same and strict
abbrev pub ends_before : Option (List ℕ) → Bool → Option (List ℕ) → Bool
ends_before None strict other = false
ends_before (Some upper) strict None = true
ends_before (Some upper) strict (Some other) = comes_after (slice_cmp nat_cmp other upper) (not strict)
