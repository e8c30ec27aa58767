-- Rows that are told of part by part.
use Rattle.std.proofs.Common.{inl, inr, refl, ◌≡◌, ◌∙◌, sym, ap, subst, ℕ, ◌+◌, ◌-◌, ◌<◌, ◌≤◌, ◌||◌, slice_range, Bool, true, false, List, length, get_or, set, drop, length-drop, length-take-le, arith}
use Rattle.std.proofs.lemmas.Bool.{cases_lt, cases_eq}
use Rattle.std.proofs.lemmas.List.{length-set, get_or-set_same, get_or-set_other, get_or-take, get_or-drop}
use Rattle.dr_rowindex.specs.Orders.{Tell}
use Rattle.dr_rowindex.proofs.TellLemmas.{TellTo}
use Rattle.dr_select.specs.Parts.{AddsPart}

-- ---- one row more

pub none-added : (part : List Bool) (from : ℕ) (before : List Bool) → AddsPart part from from before before
none-added part from before = record {
  count = refl;
  before_it = λ i lt. refl;
  in_it = λ i le lt. absurd (omega (arith, le, lt));
  behind_it = λ i le. refl;
}

module _ (part : List Bool) (from k : ℕ) (before after : List Bool) (le : from ≤ k) (was : AddsPart part from k before after) where
  pub one-left : get_or part (k - from) false ≡ false → AddsPart part from (k + 1) before after
  one-left out = record {
    count = was.count;
    before_it = was.before_it;
    in_it = λ i low high. elim (cases_eq i k) [
      | inl same ↦ (subst (λ j. get_or after j false ≡ (get_or before j false || get_or part (j - from) false)) (sym same)
          (was.behind_it k (omega arith) ∙ alone (get_or before k false) ∙ ap (λ b. get_or before k false || b) (sym out)))
      | inr differs ↦ was.in_it i low (omega (arith, high, differs))
    ];
    behind_it = λ i far. was.behind_it i (omega (arith, far));
  }
    where
      alone : (b : Bool) → b ≡ (b || false)
      alone true = refl
      alone false = refl

  pub one-added : k < length after → get_or part (k - from) false ≡ true → AddsPart part from (k + 1) before (set after k true)
  one-added within inside = record {
    count = length-set after k true ∙ was.count;
    before_it = λ i low. get_or-set_other after k i true false (λ e. absurd (omega (arith, e, low, le))) ∙ was.before_it i low;
    in_it = λ i low high. elim (cases_eq i k) [
      | inl same ↦ (subst (λ j. get_or (set after k true) j false ≡ (get_or before j false || get_or part (j - from) false)) (sym same)
          (get_or-set_same after k true false within ∙ every (get_or before k false) ∙ ap (λ b. get_or before k false || b) (sym inside)))
      | inr differs ↦ (get_or-set_other after k i true false differs ∙ was.in_it i low (omega (arith, high, differs)))
    ];
    behind_it = λ i far. get_or-set_other after k i true false (λ e. absurd (omega (arith, e, far))) ∙ was.behind_it i (omega (arith, far));
  }
    where
      every : (b : Bool) → true ≡ (b || true)
      every true = refl
      every false = refl

-- ---- a part more

range_length : {V : Type 0} (xs : List V) (from to : ℕ) → to ≤ length xs → length (slice_range xs from to) ≡ to - from
range_length xs from to within = length-take-le (to - from) (drop from xs) (omega (arith, length-drop from xs, within))

-- what is told of the rows before a part, and of those of the part
pub part-told : {V : Type 0} (test : V → Bool) (rows : List V) (from to : ℕ) (part before after : List Bool) → from ≤ to → to ≤ length rows
    → Tell test (slice_range rows from to) part → AddsPart part from to before after → TellTo from test rows before → TellTo to test rows after
part-told test rows from to part before after le within tells adds was = record {
  count = adds.count ∙ was.count;
  done = λ i row lt. elim (cases_lt i from) [
    | inl less ↦ (adds.before_it i less ∙ was.done i row less)
    | inr more ↦ (let here : i - from < to - from = omega (arith, lt, more) in
        let same : from + (i - from) ≡ i = omega (arith, more) in
        adds.in_it i more lt ∙ ap (λ b. b || get_or part (i - from) false) (was.left i more)
        ∙ tells.each (i - from) row (omega (arith, here, range_length rows from to within))
        ∙ ap test (get_or-take (to - from) (drop from rows) (i - from) row here ∙ get_or-drop from rows (i - from) row ∙ ap (λ j. get_or rows j row) same))
  ];
  left = λ i far. adds.behind_it i far ∙ was.left i (omega (arith, far, le));
}
