-- Words that are changed one after another, and their bits.
use Rattle.std.proofs.Common.{inl, inr, ◌≡◌, ◌∙◌, sym, refl, ap, subst, ℕ, ◌+◌, ◌<◌, ◌≤◌, List, length, get_or, set, arith}
use Rattle.std.proofs.lemmas.List.{length-set, get_or-set_same, get_or-set_other}
use Rattle.std.proofs.lemmas.Bool.{cases_lt}

-- the words up to a place are what they were, paired with others
pub record PairedTo (k : ℕ) (f : ℕ → ℕ → ℕ) (others before after : List ℕ) : Type 0 where
  pub count : length after ≡ length before
  pub done : (i : ℕ) → i < k → get_or after i 0 ≡ f (get_or before i 0) (get_or others i 0)
  pub left : (i : ℕ) → k ≤ i → get_or after i 0 ≡ get_or before i 0

pub to-none : (f : ℕ → ℕ → ℕ) (others xs : List ℕ) → PairedTo 0 f others xs xs
to-none f others xs = record { count = refl; done = λ i lt. absurd (omega (arith, lt)); left = λ i le. refl }

pub to-more : (k : ℕ) (f : ℕ → ℕ → ℕ) (others before after : List ℕ) (v : ℕ) → k < length after → v ≡ f (get_or after k 0) (get_or others k 0) → PairedTo k f others before after → PairedTo (k + 1) f others before (set after k v)
to-more k f others before after v lt is h = record {
  count = length-set after k v ∙ h.count;
  done = done;
  left = λ i le. get_or-set_other after k i v 0 (λ e. absurd (omega (arith, e, le))) ∙ h.left i (omega (arith, le));
}
  where
    done : (i : ℕ) → i < k + 1 → get_or (set after k v) i 0 ≡ f (get_or before i 0) (get_or others i 0)
    done i more = elim (cases_lt i k) [
      | inl less ↦ get_or-set_other after k i v 0 (λ e. absurd (omega (arith, e, less))) ∙ h.done i less
      | inr le ↦ (let same : i ≡ k = omega (arith, more, le) in
          subst (λ j. get_or (set after k v) j 0 ≡ f (get_or before j 0) (get_or others j 0)) (sym same)
          (get_or-set_same after k v 0 lt ∙ is ∙ ap (λ a. f a (get_or others k 0)) (h.left k (omega arith))))
    ]

-- the words up to a place are what they are to be
pub record DoneTo (k : ℕ) (now : ℕ → ℕ) (before after : List ℕ) : Type 0 where
  pub count : length after ≡ length before
  pub done : (i : ℕ) → i < k → get_or after i 0 ≡ now i
  pub left : (i : ℕ) → k ≤ i → get_or after i 0 ≡ get_or before i 0

pub done-none : (now : ℕ → ℕ) (xs : List ℕ) → DoneTo 0 now xs xs
done-none now xs = record { count = refl; done = λ i lt. absurd (omega (arith, lt)); left = λ i le. refl }

pub done-more : (k : ℕ) (now : ℕ → ℕ) (before after : List ℕ) (v : ℕ) → k < length after → v ≡ now k → DoneTo k now before after → DoneTo (k + 1) now before (set after k v)
done-more k now before after v lt is h = record {
  count = length-set after k v ∙ h.count;
  done = λ i more. elim (cases_lt i k) [
    | inl less ↦ get_or-set_other after k i v 0 (λ e. absurd (omega (arith, e, less))) ∙ h.done i less
    | inr le ↦ (let same : i ≡ k = omega (arith, more, le) in
        ap (λ j. get_or (set after k v) j 0) same ∙ get_or-set_same after k v 0 lt ∙ is ∙ ap now (sym same))
  ];
  left = λ i le. get_or-set_other after k i v 0 (λ e. absurd (omega (arith, e, le))) ∙ h.left i (omega (arith, le));
}
