-- The rows of ranges, part by part.
use Rattle.std.proofs.Common.{◌≡◌, ◌∙◌, sym, refl, ap, subst, ℕ, zero, suc, ◌+◌, ◌-◌, ◌<◌, ◌≤◌, List, [], ◌∷◌, ◌++◌, map, length, take, drop, get_or, arith}
use Rattle.std.specs.List.{AllByRecursion}
use Rattle.std.proofs.Math.Seq.{take-add}
use Rattle.std.proofs.lemmas.List.{map-append, append-nil, take_more, take-append-drop}
use Rattle.std.proofs.lemmas.List.Concat.{flat_map-append}
use Rattle.dr_base.specs.declared.row.Row.{Row}
use Rattle.dr_agg.specs.Rollup.{all_rows}
use Rattle.dr_fragment.specs.declared.fragment.Fragment.{Fragment}
use Rattle.dr_workers.specs.Shared.{rows_of}

pub rows-append : (a b : List Fragment) → rows_of (a ++ b) ≡ rows_of a ++ rows_of b
rows-append a b = ap all_rows (map-append (λ (f : Fragment). f.rows) a b) ∙ flat_map-append (λ (rows : List Row). rows) (map (λ (f : Fragment). f.rows) a) (map (λ (f : Fragment). f.rows) b)

-- with one range more
pub rows-more : (fs : List Fragment) (i : ℕ) (f : Fragment) → i < length fs → f ≡ get_or fs i f → rows_of (take i fs) ++ f.rows ≡ rows_of (take (i + 1) fs)
rows-more fs i f lt is =
    ap (λ rows. rows_of (take i fs) ++ rows) (sym (append-nil f.rows)) ∙ sym (rows-append (take i fs) (f ∷ []))
    ∙ ap rows_of ((λ j. take i fs ++ is j ∷ []) ∙ sym (take_more fs i f lt))

module _ (P : Row → Type 0) where
  pub in-first : (a b : List Row) → AllByRecursion P (a ++ b) → AllByRecursion P a
  in-first [] b all = tt
  in-first (x ∷ a) b all = (all.0, in-first a b all.1)

  pub in-second : (a b : List Row) → AllByRecursion P (a ++ b) → AllByRecursion P b
  in-second [] b all = all
  in-second (x ∷ a) b all = in-second a b all.1

  -- what is so of all rows is so of those of a range
  pub in-range : (fs : List Fragment) (i : ℕ) (f : Fragment) → i < length fs → f ≡ get_or fs i f → AllByRecursion P (rows_of fs) → AllByRecursion P f.rows
  in-range [] i f lt is all = absurd (omega (arith, lt))
  in-range (x ∷ fs) zero f lt is all = subst (λ (y : Fragment). AllByRecursion P y.rows) (sym is) (in-first x.rows (rows_of fs) all)
  in-range (x ∷ fs) (suc i) f lt is all = in-range fs i f (omega (arith, lt)) is (in-second x.rows (rows_of fs) all)

-- the rows of the ranges from one place to another, behind those before
pub rows-part : (fs : List Fragment) (from to : ℕ) → from ≤ to → rows_of (take from fs) ++ rows_of (take (to - from) (drop from fs)) ≡ rows_of (take to fs)
rows-part fs from to le =
    let whole : from + (to - from) ≡ to = omega (arith, le) in
    sym (rows-append (take from fs) (take (to - from) (drop from fs))) ∙ ap rows_of (sym (take-add from (to - from) fs) ∙ ap (λ n. take n fs) whole)

pub all_rows-push : (lists : List (List Row)) (rows : List Row) → all_rows (lists ++ rows ∷ []) ≡ all_rows lists ++ rows
all_rows-push lists rows = flat_map-append (λ (rows : List Row). rows) lists (rows ∷ []) ∙ ap (λ r. all_rows lists ++ r) (append-nil rows)

-- what is so of all rows is so of those of a part
pub in-part : (P : Row → Type 0) (fs : List Fragment) (from n : ℕ) → AllByRecursion P (rows_of fs) → AllByRecursion P (rows_of (take n (drop from fs)))
in-part P fs from n all =
    let rest = drop from fs in
    let behind = in-second P (rows_of (take from fs)) (rows_of rest) (subst (AllByRecursion P) (ap rows_of (sym (take-append-drop from fs)) ∙ rows-append (take from fs) rest) all) in
    in-first P (rows_of (take n rest)) (rows_of (drop n rest)) (subst (AllByRecursion P) (ap rows_of (sym (take-append-drop n rest)) ∙ rows-append (take n rest) (drop n rest)) behind)

pub no-rows : (fs : List Fragment) → length fs ≤ 0 → [] ≡ rows_of fs
no-rows [] none = refl
no-rows (f ∷ fs) none = absurd (omega (arith, none))
