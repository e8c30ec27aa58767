-- Outputs that are asked at other places with the same values.
use Rattle.std.proofs.Common.{◌≡◌, ◌∙◌, sym, refl, ap, ℕ, ℤ, pos, zero, suc, List, [], ◌∷◌, slice_get, unwrap_or, option_map, Some, length, length-append, ◌++◌, ◌+◌, ◌⊎◌, inl, inr, arith}
use Rattle.dr_having.specs.declared.group_value.GroupValue.{GroupValue}
use Rattle.dr_having.specs.Meeting.{compares, meets_value}
use Rattle.dr_having.specs.Placed.{place_in, value_placed, HaveNumbers}
use Rattle.dr_outputs.specs.Numbered.{number_at, numbers_by}

-- the value of an output is that of its number
value-by : (numbers : List ℕ) (values : List ℤ) (p : ℕ) → slice_get (numbers_by numbers values) p ≡ option_map (λ n. number_at n values) (slice_get numbers p)
value-by [] values p = refl
value-by (n ∷ ns) values zero = refl
value-by (n ∷ ns) values (suc p) = value-by ns values p

-- a place more, of an output with the same number
at-end : (ps : List ℕ) (q p : ℕ) → (slice_get (ps ++ q ∷ []) p ≡ slice_get ps p) ⊎ ((p ≡ length ps) × (slice_get (ps ++ q ∷ []) p ≡ Some q))
at-end [] q zero = inr (refl, refl)
at-end [] q (suc p) = inl refl
at-end (x ∷ xs) q zero = inl refl
at-end (x ∷ xs) q (suc p) = elim (at-end xs q p) [ inl same ↦ inl same | inr last ↦ inr (ap suc last.0, last.1) ]

pub one-place-more : (numbers ps new : List ℕ) (i q : ℕ) → length ps ≡ i → HaveNumbers numbers ps → slice_get numbers q ≡ slice_get numbers i → new ≡ ps ++ q ∷ [] → (length new ≡ i + 1) × HaveNumbers numbers new
one-place-more numbers ps new i q long have next is =
    (ap length is ∙ length-append ps (q ∷ []) ∙ omega (arith, long), λ p. ap (λ l. slice_get numbers (place_in l p)) is ∙ at p (at-end ps q p))
  where
    at : (p : ℕ) → (slice_get (ps ++ q ∷ []) p ≡ slice_get ps p) ⊎ ((p ≡ length ps) × (slice_get (ps ++ q ∷ []) p ≡ Some q)) → slice_get numbers (place_in (ps ++ q ∷ []) p) ≡ slice_get numbers p
    at p (inl same) = ap (λ o. slice_get numbers (unwrap_or o p)) same ∙ have p
    at p (inr last) = ap (λ o. slice_get numbers (unwrap_or o p)) last.1 ∙ next ∙ ap (slice_get numbers) (sym (last.0 ∙ long))

same_value : (numbers places : List ℕ) → HaveNumbers numbers places → (values : List ℤ) (p : ℕ) → number_at (place_in places p) (numbers_by numbers values) ≡ number_at p (numbers_by numbers values)
same_value numbers places have values p =
    ap (λ o. unwrap_or o (pos 0)) (value-by numbers values (place_in places p) ∙ ap (option_map (λ n. number_at n values)) (have p) ∙ sym (value-by numbers values p))

pub meets-placed : (numbers places : List ℕ) (c : GroupValue) → HaveNumbers numbers places → (values : List ℤ) → meets_value (value_placed places c) (numbers_by numbers values) ≡ meets_value c (numbers_by numbers values)
meets-placed numbers places c have values = ap (λ v. compares c.comparison v c.value) (same_value numbers places have values c.place)
