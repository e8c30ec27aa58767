-- How rows compare by their times and the numbers of their values.
use Rattle.std.proofs.Common.{◌≡◌, ◌∙◌, sym, refl, ap, ℕ, ℤ, suc, ◌+◌, ◌-◌, ◌<◌, ◌≤◌, Bool, true, false, List, [], length, drop, get_or, map, arith}
use Rattle.std.specs.Prelude.{◌&&◌}
use Rattle.std.specs.List.{list_all, range_with_len}
use Rattle.std.specs.Ordering.{nat_cmp, ordering_then}
use Rattle.std.specs.declared.cmp.Ordering.{Ordering}
use Rattle.std.specs.declared.cmp.Ordering.TheVariants.{Equal}
use Rattle.std.specs.Cmp.Lexicographic.{slice_cmp}
use Rattle.std.proofs.lemmas.Bool.{and_left}
use Rattle.std.proofs.lemmas.List.{drop_more, drop_all, get_or-map}
use Rattle.dr_image.specs.Words.{word}
use Rattle.dr_image.specs.Layout.{Part}
use Rattle.dr_image.specs.Parts.{no_part}
use Rattle.dr_image.specs.Sealed.{goes_on}
use Rattle.dr_image.specs.Opening.{rank_cmp, numbers_at, ranks_fit}

abbrev numbers_cmp : List Part → ℕ → ℕ → Ordering
numbers_cmp parts i j = slice_cmp nat_cmp (numbers_at parts i) (numbers_at parts j)

-- one dimension, and those behind it
numbers-step : (parts : List Part) (d i j : ℕ) → d < length parts
    → numbers_cmp (drop d parts) i j ≡ ordering_then (nat_cmp (get_or (get_or parts d no_part).numbers i 0) (get_or (get_or parts d no_part).numbers j 0)) (numbers_cmp (drop (d + 1) parts) i j)
numbers-step parts d i j lt = rw (drop_more parts d no_part lt) refl

-- a dimension that is read from cells
pub numbers_by : (parts : List Part) (d i j : ℕ) (cells : List (List ℕ)) (o : Ordering) → d < length parts → map word cells ≡ (get_or parts d no_part).numbers → i < length cells → j < length cells
    → o ≡ nat_cmp (word (get_or cells i [])) (word (get_or cells j []))
    → numbers_cmp (drop d parts) i j ≡ ordering_then o (numbers_cmp (drop (d + 1) parts) i j)
numbers_by parts d i j cells o lt seen lt_i lt_j is =
    let a : get_or (get_or parts d no_part).numbers i 0 ≡ word (get_or cells i []) = ap (λ (k : List ℕ). get_or k i 0) (sym seen) ∙ get_or-map word cells i [] 0 lt_i in
    let b : get_or (get_or parts d no_part).numbers j 0 ≡ word (get_or cells j []) = ap (λ (k : List ℕ). get_or k j 0) (sym seen) ∙ get_or-map word cells j [] 0 lt_j in
    numbers-step parts d i j lt ∙ (λ k. ordering_then (nat_cmp (a k) (b k)) (numbers_cmp (drop (d + 1) parts) i j)) ∙ ap (λ (k : Ordering). ordering_then k (numbers_cmp (drop (d + 1) parts) i j)) (sym is)

pub numbers_end : (parts : List Part) (d i j : ℕ) → length parts ≤ d → numbers_cmp (drop d parts) i j ≡ Equal
numbers_end parts d i j le = rw (drop_all d parts le) refl

-- ---- each row with the next

abbrev fits_next : Bool → List ℤ → List Part → ℕ → Bool
fits_next rollup times parts i = goes_on rollup (rank_cmp times parts i (i + 1))

unfoldable pub ranks_from : Bool → List ℤ → List Part → ℕ → Bool
ranks_from rollup times parts i = list_all (fits_next rollup times parts) (range_with_len i (length times - 1 - i))

pub ranks_none : (rollup : Bool) (times : List ℤ) (parts : List Part) → ranks_from rollup times parts 0 ≡ ranks_fit rollup times parts
unfolding ranks_from ranks_fit
ranks_none rollup times parts = let e : length times - 1 - 0 ≡ length times - 1 = omega arith in ap (λ k. list_all (fits_next rollup times parts) (range_with_len 0 k)) e

ranks-step : (rollup : Bool) (times : List ℤ) (parts : List Part) (i : ℕ) → i < length times - 1
    → ranks_from rollup times parts i ≡ (fits_next rollup times parts i && ranks_from rollup times parts (i + 1))
unfolding ranks_from
ranks-step rollup times parts i lt =
    let left : ℕ = length times - 1 - (i + 1) in
    let e : length times - 1 - i ≡ suc left = omega arith in
    ap (λ k. list_all (fits_next rollup times parts) (range_with_len i k)) e

pub rank_stops : (rollup : Bool) (times : List ℤ) (parts : List Part) (i : ℕ) (o : Ordering) (b : Bool) → i < length times - 1 → o ≡ rank_cmp times parts i (i + 1) → b ≡ goes_on rollup o → b ≡ false
    → ranks_from rollup times parts i ≡ false
rank_stops rollup times parts i o b lt is test fails = ranks-step rollup times parts i lt ∙ and_left _ _ (ap (goes_on rollup) (sym is) ∙ sym test ∙ fails)

pub rank_more : (rollup : Bool) (times : List ℤ) (parts : List Part) (i : ℕ) (o : Ordering) (b : Bool) → i < length times - 1 → o ≡ rank_cmp times parts i (i + 1) → b ≡ goes_on rollup o → b ≡ true
    → ranks_from rollup times parts i ≡ ranks_from rollup times parts (i + 1)
rank_more rollup times parts i o b lt is test passes =
    ranks-step rollup times parts i lt ∙ ap (λ k. k && ranks_from rollup times parts (i + 1)) (ap (goes_on rollup) (sym is) ∙ sym test ∙ passes)

pub rank_ends : (rollup : Bool) (times : List ℤ) (parts : List Part) (i : ℕ) → length times - 1 ≤ i → ranks_from rollup times parts i ≡ true
unfolding ranks_from
rank_ends rollup times parts i le = let e : length times - 1 - i ≡ 0 = omega arith in ap (λ k. list_all (fits_next rollup times parts) (range_with_len i k)) e
