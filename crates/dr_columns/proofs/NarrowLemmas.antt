-- Lists of truths that are narrowed.
use Rattle.std.proofs.Common.{inl, inr, ◌≡◌, ◌∙◌, sym, refl, ap, subst, ℕ, ◌+◌, ◌<◌, ◌≤◌, ◌&&◌, Bool, false, List, length, get_or, set, arith}
use Rattle.std.proofs.lemmas.List.{length-set, get_or-set_same, get_or-set_other}
use Rattle.std.proofs.lemmas.Bool.{cases_lt}
use Rattle.dr_columns.specs.Rows.{Narrows}

-- narrowed up to a place
pub record NarrowsTo (k : ℕ) (test : ℕ → Bool) (before after : List Bool) : Type 0 where
  pub count : length after ≡ length before
  pub done : (i : ℕ) → i < length before → i < k → get_or after i false ≡ (get_or before i false && test i)
  pub left : (i : ℕ) → k ≤ i → get_or after i false ≡ get_or before i false

pub to-none : (test : ℕ → Bool) (xs : List Bool) → NarrowsTo 0 test xs xs
to-none test xs = record { count = refl; done = λ i lt lt'. absurd (omega (arith, lt')); left = λ i le. refl }

pub to-all : (k : ℕ) (test : ℕ → Bool) (before after : List Bool) → length before ≤ k → NarrowsTo k test before after → Narrows test before after
to-all k test before after le h = record { count = h.count; each = λ i lt. h.done i lt (omega (arith, le, lt)) }

pub to-more : (k : ℕ) (test : ℕ → Bool) (before after : List Bool) (v : Bool) → k < length after → v ≡ (get_or after k false && test k) → NarrowsTo k test before after → NarrowsTo (k + 1) test before (set after k v)
to-more k test before after v lt is h = record {
  count = length-set after k v ∙ h.count;
  done = done;
  left = λ i le. get_or-set_other after k i v false (λ e. absurd (omega (arith, e, le))) ∙ h.left i (omega (arith, le));
}
  where
    done : (i : ℕ) → i < length before → i < k + 1 → get_or (set after k v) i false ≡ (get_or before i false && test i)
    done i lt' more = elim (cases_lt i k) [
      | inl less ↦ get_or-set_other after k i v false (λ e. absurd (omega (arith, e, less))) ∙ h.done i lt' less
      | inr le ↦ (let same : i ≡ k = omega (arith, more, le) in
          subst (λ j. get_or (set after k v) j false ≡ (get_or before j false && test j)) (sym same)
          (get_or-set_same after k v false lt ∙ is ∙ ap (λ b. b && test k) (h.left k (omega arith))))
    ]

-- what is left of a test, narrowed by, is what the whole test is
pub record ToNarrow (whole left : ℕ → Bool) (before after : List Bool) : Type 0 where
  pub count : length after ≡ length before
  pub each : (i : ℕ) → i < length before → (get_or after i false && left i) ≡ (get_or before i false && whole i)

-- ---- whole lists

pub same-test : (f g : ℕ → Bool) (before after : List Bool) → ((i : ℕ) → i < length before → f i ≡ g i) → Narrows f before after → Narrows g before after
same-test f g before after same h = record { count = h.count; each = λ i lt. h.each i lt ∙ ap (λ b. get_or before i false && b) (same i lt) }
