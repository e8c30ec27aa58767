-- Segments that are numbered one after the other.
use Rattle.std.specs.Prelude.{IfSome}
use Rattle.std.specs.Ordering.{int_eq}
use Rattle.std.proofs.Common.{◌≡◌, ◌∙◌, sym, refl, ap, ℕ, ℤ, zero, suc, ◌+◌, ◌<◌, List, [], ◌∷◌, ◌++◌, length, map, drop, get_or, Option, Some, None, cond, true, false, append_assoc, arith}
use Rattle.std.proofs.lemmas.List.{drop_more}
use Rattle.dr_base.specs.declared.row.Row.{Row}
use Rattle.dr_fragment.specs.declared.fragment.Fragment.{Fragment}
use Rattle.dr_schema.specs.declared.schema.Schema.{Schema}
use Rattle.dr_cuts.specs.declared.range_info.RangeInfo.{RangeInfo}
use Rattle.dr_scan.specs.Identified.{Identified}
use Rattle.dr_scan.specs.Identifier.{identifier_of}
use Rattle.dr_timeline.specs.Numbered.{next_place, numbered}

abbrev rows_held : List Fragment → List (List Row)
rows_held fs = map (λ f. f.rows) fs

rows-at : (fs : List Fragment) (i : ℕ) (d : Fragment) → i < length fs → get_or (rows_held fs) i [] ≡ (get_or fs i d).rows
rows-at [] i d less = absurd (omega arith)
rows-at (f ∷ fs) zero d less = refl
rows-at (f ∷ fs) (suc i) d less = rows-at fs i d (omega arith)

length-held : (fs : List Fragment) → length (rows_held fs) ≡ length fs
length-held [] = refl
length-held (f ∷ fs) = ap suc (length-held fs)

held-more : (fs : List Fragment) (i : ℕ) (d : Fragment) → i < length fs → drop i (rows_held fs) ≡ (get_or fs i d).rows ∷ drop (i + 1) (rows_held fs)
held-more fs i d less =
    let long = length-held fs in
    drop_more (rows_held fs) i [] (omega arith) ∙ ap (λ rows. rows ∷ drop (i + 1) (rows_held fs)) (rows-at fs i d less)

-- one more segment
pub number-more : (schema : Schema) (last : Option (ℤ × ℕ)) (ranges : List RangeInfo) (fs : List Fragment) (i : ℕ) (d : RangeInfo) (e : Fragment) (done new whole : List Identified) (x : Identified)
    → i < length ranges → i < length fs
    → x ≡ record { identifier = identifier_of schema (get_or ranges i d).chunk (get_or ranges i d).version (next_place last (get_or ranges i d).chunk); rows = (get_or fs i e).rows }
    → new ≡ done ++ x ∷ []
    → done ++ numbered schema last (drop i ranges) (drop i (rows_held fs)) ≡ whole
    → new ++ numbered schema (Some ((get_or ranges i d).chunk, next_place last (get_or ranges i d).chunk)) (drop (i + 1) ranges) (drop (i + 1) (rows_held fs)) ≡ whole
number-more schema last ranges fs i d e done new whole x in_ranges in_fs is pushed h =
    let r : RangeInfo = get_or ranges i d in
    let rest : List Identified = numbered schema (Some (r.chunk, next_place last r.chunk)) (drop (i + 1) ranges) (drop (i + 1) (rows_held fs)) in
    let first : drop i ranges ≡ r ∷ drop (i + 1) ranges = drop_more ranges i d in_ranges in
    let held = held-more fs i e in_fs in
    ap (λ t. t ++ rest) pushed ∙ append_assoc done (x ∷ []) rest ∙ ap (λ (y : Identified). done ++ y ∷ rest) is
    ∙ sym (λ j. done ++ numbered schema last (first j) (held j)) ∙ h

-- a place is below the number of ranges so far
pub place-below : (last : Option (ℤ × ℕ)) (k : ℤ) (i : ℕ) → IfSome last (λ p. p.1 < i) → next_place last k < i + 1
place-below None k i h = omega arith
place-below (Some last) k i h = elim (int_eq last.0 k) as (λ b. cond b (last.1 + 1) 0 < i + 1) [ true ↦ omega (arith, h) | false ↦ omega arith ]
