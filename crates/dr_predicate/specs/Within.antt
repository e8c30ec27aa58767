-- Which texts lie in a range.
use Rattle.std.specs.Prelude.{ℕ, Bool, true, false, not, ◌&&◌, List, Option, Some, None}
use Rattle.std.specs.List.{list_any}
use Rattle.std.specs.Ordering.{nat_cmp}
use Rattle.std.specs.Cmp.Lexicographic.{slice_cmp}
use Rattle.std.specs.declared.cmp.Ordering.{Ordering}
use Rattle.std.specs.declared.cmp.Ordering.TheVariants.{Less, Equal, Greater}
use Rattle.dr_predicate.specs.declared.bounds.Bounds.{Bounds}

-- it comes after the other, or is the same where that is enough
abbrev pub comes_after : Ordering → Bool → Bool
comes_after Less strict = false
comes_after Equal strict = not strict
comes_after Greater strict = true

-- texts are ordered by their bytes; an end that is absent bounds nothing
abbrev pub not_before : Option (List ℕ) → Bool → List ℕ → Bool
not_before None strict text = true
not_before (Some lower) strict text = comes_after (slice_cmp nat_cmp text lower) strict

abbrev pub not_after : Option (List ℕ) → Bool → List ℕ → Bool
not_after None strict text = true
not_after (Some upper) strict text = comes_after (slice_cmp nat_cmp upper text) strict

abbrev pub lies_within : Bounds → List ℕ → Bool
lies_within b text = not_before b.lower b.lower_strict text && not_after b.upper b.upper_strict text

-- a text lies in one of some ranges
abbrev pub some_within : List Bounds → List ℕ → Bool
some_within bs text = list_any (λ b. lies_within b text) bs
