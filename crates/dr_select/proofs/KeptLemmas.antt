-- Rows that are kept of some, one after another.
use Rattle.std.proofs.Common.{inl, inr, ◌≡◌, ◌∙◌, sym, subst, ℕ, ◌+◌, ◌<◌, ◌≤◌, ◌&&◌, Bool, true, false, List, length, get_or, set, arith}
use Rattle.std.proofs.lemmas.Bool.{cases_lt}
use Rattle.std.proofs.lemmas.List.{length-set, get_or-set_same, get_or-set_other}
use Rattle.dr_select.specs.Parts.{Keeps}

-- the rows before a place were kept, where they were to be
pub record KeptTo {V : Type 0} (k : ℕ) (test : V → Bool) (rows : List V) (before after : List Bool) : Type 0 where
  pub count : length after ≡ length rows
  pub done : (i : ℕ) (row : V) → i < k → get_or after i false ≡ (get_or before i false && test (get_or rows i row))
  pub left : (i : ℕ) → k ≤ i → get_or after i false ≡ false

module _ {V : Type 0} (k : ℕ) (test : V → Bool) (rows : List V) (before after : List Bool) (was : KeptTo k test rows before after) where
  pub one-left-out : ((row : V) → (get_or before k false && test (get_or rows k row)) ≡ false) → KeptTo (k + 1) test rows before after
  one-left-out fails = record {
    count = was.count;
    done = λ i row lt. elim (cases_lt i k) [
      | inl less ↦ was.done i row less
      | inr more ↦ (let same : i ≡ k = omega (arith, lt, more) in
          subst (λ j. get_or after j false ≡ (get_or before j false && test (get_or rows j row))) (sym same) (was.left k (omega arith) ∙ sym (fails row)))
    ];
    left = λ i le. was.left i (omega (arith, le));
  }

  pub one-kept : k < length after → ((row : V) → (get_or before k false && test (get_or rows k row)) ≡ true) → KeptTo (k + 1) test rows before (set after k true)
  one-kept within passes = record {
    count = length-set after k true ∙ was.count;
    done = λ i row lt. elim (cases_lt i k) [
      | inl less ↦ get_or-set_other after k i true false (λ e. absurd (omega (arith, e, less))) ∙ was.done i row less
      | inr more ↦ (let same : i ≡ k = omega (arith, lt, more) in
          subst (λ j. get_or (set after k true) j false ≡ (get_or before j false && test (get_or rows j row))) (sym same) (get_or-set_same after k true false within ∙ sym (passes row)))
    ];
    left = λ i le. get_or-set_other after k i true false (λ e. absurd (omega (arith, e, le))) ∙ was.left i (omega (arith, le));
  }

pub all-kept : {V : Type 0} (k : ℕ) (test : V → Bool) (rows : List V) (before after : List Bool) → length rows ≤ k → KeptTo k test rows before after → Keeps test rows before after
all-kept k test rows before after le was = record { count = was.count; each = λ i row lt. was.done i row (omega (arith, le, lt)) }
