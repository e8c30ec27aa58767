-- Words that are changed one after another.
use Rattle.std.proofs.Common.{inl, inr, ◌⊎◌, ◌≡◌, ◌∙◌, sym, refl, subst, ℕ, ◌+◌, ◌<◌, ◌≤◌, List, length, get_or, set, arith}
use Rattle.std.proofs.lemmas.List.{length-set, get_or-set_same, get_or-set_other}
use Rattle.std.proofs.lemmas.Bool.{cases_lt}

-- the words from a place up to another are such as they shall be, and the others what they were
pub record ChangedTo (from k : ℕ) (IsWanted : ℕ → ℕ → Type 0) (before after : List ℕ) : Type 0 where
  pub count : length after ≡ length before
  pub begun : from ≤ k
  pub done : (i : ℕ) → from ≤ i → i < k → IsWanted i (get_or after i 0)
  pub left : (i : ℕ) → (i < from) ⊎ (k ≤ i) → get_or after i 0 ≡ get_or before i 0

pub to-none : (from : ℕ) (P : ℕ → ℕ → Type 0) (xs : List ℕ) → ChangedTo from from P xs xs
to-none from P xs = record { count = refl; begun = omega arith; done = λ i le lt. absurd (omega (arith, lt, le)); left = λ i other. refl }

pub to-more : (from k : ℕ) (P : ℕ → ℕ → Type 0) (before after : List ℕ) (v : ℕ) → k < length after → P k v → ChangedTo from k P before after → ChangedTo from (k + 1) P before (set after k v)
to-more from k P before after v lt is h = record {
  count = length-set after k v ∙ h.count;
  begun = omega (arith, h.begun);
  done = done;
  left = left;
}
  where
    done : (i : ℕ) → from ≤ i → i < k + 1 → P i (get_or (set after k v) i 0)
    done i le more = elim (cases_lt i k) [
      | inl less ↦ subst (P i) (sym (get_or-set_other after k i v 0 (λ e. absurd (omega (arith, e, less))))) (h.done i le less)
      | inr above ↦ (let same : i ≡ k = omega (arith, more, above) in
          subst (λ j. P j (get_or (set after k v) j 0)) (sym same) (subst (P k) (sym (get_or-set_same after k v 0 lt)) is))
    ]

    left : (i : ℕ) → (i < from) ⊎ (k + 1 ≤ i) → get_or (set after k v) i 0 ≡ get_or before i 0
    left i (inl less) = get_or-set_other after k i v 0 (λ e. absurd (omega (arith, e, less, h.begun))) ∙ h.left i (inl less)
    left i (inr le) = get_or-set_other after k i v 0 (λ e. absurd (omega (arith, e, le))) ∙ h.left i (inr (omega (arith, le)))
