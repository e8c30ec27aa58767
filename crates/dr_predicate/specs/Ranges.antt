-- Ranges in the order of their lower ends.
use Rattle.std.specs.Prelude.{◌≡◌, ℕ, ◌<◌, ◌≤◌, Bool, true, false, if◌then◌else◌, List, [], ◌∷◌, ◌++◌, Option, Some, None, length, get_or}
use Rattle.std.specs.Ordering.{nat_cmp, bool_cmp, ordering_then}
use Rattle.std.specs.Cmp.Lexicographic.{slice_cmp}
use Rattle.std.specs.declared.cmp.Ordering.{Ordering}
use Rattle.dr_predicate.specs.declared.bounds.Bounds.{Bounds}
use Rattle.dr_predicate.specs.Ends.{ends_before}
use Rattle.dr_predicate.specs.Within.{not_before, not_after, lies_within}

-- the lower end as a text, and whether it is strict; where it is absent it is the empty text, and isn't
abbrev pub start_text : Option (List ℕ) → List ℕ
start_text None = []
start_text (Some lower) = lower

abbrev pub start_strict : Option (List ℕ) → Bool → Bool
start_strict None strict = false
start_strict (Some lower) strict = strict

abbrev pub start_order : Bounds → Bounds → Ordering
start_order a b = ordering_then (slice_cmp nat_cmp (start_text a.lower) (start_text b.lower)) (bool_cmp (start_strict a.lower a.lower_strict) (start_strict b.lower b.lower_strict))

abbrev pub begun : List ℕ → Bounds → Bool
begun text b = not_before b.lower b.lower_strict text

abbrev pub unended : List ℕ → Bounds → Bool
unended text b = not_after b.upper b.upper_strict text

-- a range that may be absent, and lets nothing in then
abbrev pub lies_open : Option Bounds → List ℕ → Bool
lies_open None text = false
lies_open (Some b) text = lies_within b text

-- a text that is past the start of a range is past the starts of those before it
abbrev pub Rise : List Bounds → Type 0
Rise bs = (i j : ℕ) (d : Bounds) (text : List ℕ) → i ≤ j → j < length bs → begun text (get_or bs j d) ≡ true → begun text (get_or bs i d) ≡ true

-- a text that isn't past the end of a range isn't past the ends of those behind it
abbrev pub Reach : List Bounds → Type 0
Reach bs = (i j : ℕ) (d : Bounds) (text : List ℕ) → i ≤ j → j < length bs → unended text (get_or bs i d) ≡ true → unended text (get_or bs j d) ≡ true

-- a range ends no later than the last of some ranges
abbrev pub ends_within : List Bounds → Bounds → Bool
ends_within [] b = false
ends_within (r ∷ rs) b = ends_before b.upper b.upper_strict (get_or (r ∷ rs) (length rs) b).upper

-- some ranges, and one behind them, unless it ends no later
abbrev pub with_outer : List Bounds → Bounds → List Bounds
with_outer bs b = if◌then◌else◌ (ends_within bs b) bs (bs ++ b ∷ [])
