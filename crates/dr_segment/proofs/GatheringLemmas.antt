-- The values of metrics, row by row.
use Rattle.std.proofs.Common.{◌≡◌, ◌∙◌, sym, refl, ap, ℕ, ℤ, pos, ◌+◌, ◌<◌, List, [], ◌∷◌, ◌++◌, map, length, get_or, set, take, arith, ◌⊎◌, inl, inr}
use Rattle.std.specs.List.{range_with_len}
use Rattle.std.proofs.lemmas.Bool.{cases_eq}
use Rattle.std.proofs.lemmas.List.{length-map, length-set, map-set, map_more, get_or-map, get_or-set_same, get_or-set_other, get_or_default, same_lists}
use Rattle.std.proofs.lemmas.List.FromFn.{length-map-range_with_len, get_or-map-range_with_len}
use Rattle.dr_base.specs.declared.row.Row.{Row}
use Rattle.dr_image.specs.Image.{metric_of}
use Rattle.dr_segment.specs.Columns.{AddsRow}

pub adds_none : (old : List (List ℤ)) (row : List ℤ) → AddsRow old old row 0
adds_none old row = record { long = refl; more = λ k lt low. absurd (omega arith); rest = λ k le. refl }

-- one more column
pub adds_more : {V : Type 0} (f : V → List ℤ) (old : List (List ℤ)) (xs : List V) (row : List ℤ) (m : ℕ) (x y : V) → AddsRow old (map f xs) row m → m < length xs → x ≡ get_or xs m x → f y ≡ f x ++ get_or row m (pos 0) ∷ [] → AddsRow old (map f (set xs m y)) row (m + 1)
adds_more f old xs row m x y so_far lt is put = record {
  long = length-map (set xs m y) f ∙ length-set xs m y ∙ sym (length-map xs f) ∙ so_far.long;
  more = λ k low inside. same k ∙ at k low inside (cases_eq k m);
  rest = λ k le. same k ∙ get_or-set_other (map f xs) m k (f y) [] (λ e. absurd (omega arith)) ∙ so_far.rest k (omega arith);
}
  where
    same : (k : ℕ) → get_or (map f (set xs m y)) k [] ≡ get_or (set (map f xs) m (f y)) k []
    same k = ap (λ (l : List (List ℤ)). get_or l k []) (map-set f xs m y)

    before : f x ≡ get_or old m []
    before = ap f is ∙ sym (get_or-map f xs m x [] lt) ∙ so_far.rest m (omega arith)

    at : (k : ℕ) → k < m + 1 → k < length old → (k ≡ m) ⊎ (k ≡ m → ⊥) → get_or (set (map f xs) m (f y)) k [] ≡ get_or old k [] ++ get_or row k (pos 0) ∷ []
    at k low inside (inl e) =
        ap (λ j. get_or (set (map f xs) m (f y)) j []) e ∙ get_or-set_same (map f xs) m (f y) [] (omega (arith, length-map xs f)) ∙ put ∙ (λ i. before i ++ get_or row m (pos 0) ∷ []) ∙ ap (λ j. get_or old j [] ++ get_or row j (pos 0) ∷ []) (sym e)
    at k low inside (inr ne) = get_or-set_other (map f xs) m k (f y) [] ne ∙ so_far.more k (omega (arith, ne)) inside

-- one more row
pub values_more : (count i : ℕ) (rows : List Row) (r : Row) (old new : List (List ℤ)) → old ≡ map (λ m. metric_of m (take i rows)) (range_with_len 0 count) → AddsRow old new r.metrics (length old) → i < length rows → r ≡ get_or rows i r
    → new ≡ map (λ m. metric_of m (take (i + 1) rows)) (range_with_len 0 count)
values_more count i rows r old new so_far adds lt is =
    same_lists new (map (λ m. metric_of m (take (i + 1) rows)) (range_with_len 0 count)) (long ∙ sym many_more) (λ k d low.
    let inside : k < count = omega (arith, long) in
    sym (get_or_default new k [] d low) ∙ adds.more k (omega (arith, many)) (omega (arith, many))
    ∙ ap (λ (l : List ℤ). l ++ get_or r.metrics k (pos 0) ∷ []) (ap (λ (l : List (List ℤ)). get_or l k []) so_far ∙ get_or-map-range_with_len (λ m. metric_of m (take i rows)) 0 count k k [] inside (omega arith))
    ∙ ap (λ (q : Row). metric_of k (take i rows) ++ get_or q.metrics k (pos 0) ∷ []) is ∙ sym (map_more (λ (q : Row). get_or q.metrics k (pos 0)) rows i r lt)
    ∙ sym (get_or-map-range_with_len (λ m. metric_of m (take (i + 1) rows)) 0 count k k d inside (omega arith)))
  where
    many : length old ≡ count
    many = ap length so_far ∙ length-map-range_with_len (λ m. metric_of m (take i rows)) 0 count

    many_more : length (map (λ m. metric_of m (take (i + 1) rows)) (range_with_len 0 count)) ≡ count
    many_more = length-map-range_with_len (λ m. metric_of m (take (i + 1) rows)) 0 count

    long : length new ≡ count
    long = adds.long ∙ many
