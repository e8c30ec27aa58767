-- What lies outside of ranges.
use Rattle.std.proofs.Common.{◌≡◌, ◌∙◌, sym, refl, ap, Bool, true, false, not, ◌&&◌, ◌||◌, ℕ, ◌+◌, ◌<◌, ◌≤◌, List, [], ◌∷◌, length, get_or, take, Option, Some, None, bytes_eq, arith}
use Rattle.std.specs.Ordering.{nat_cmp, ordering_reverse, is_eq}
use Rattle.std.specs.Cmp.Lexicographic.{slice_cmp, nat_list_cmp_total}
use Rattle.std.specs.declared.cmp.Ordering.{Ordering}
use Rattle.std.specs.declared.cmp.Ordering.TheVariants.{Less, Equal, Greater}
use Rattle.std.proofs.lemmas.List.Folds.{list_any_more}
use Rattle.std.proofs.lemmas.Map.Text.{is_eq-slice_cmp}
use Rattle.dr_predicate.specs.declared.bounds.Bounds.{Bounds}
use Rattle.dr_predicate.specs.Within.{comes_after, not_before, not_after, lies_within, some_within}
use Rattle.dr_predicate.specs.Ranges.{start_text, start_strict, begun, unended, lies_open, Rise, Reach}
use Rattle.dr_predicate.proofs.Ends.{turned_round}
use Rattle.dr_predicate.proofs.Reaching.{same_at}
use Rattle.dr_base.proofs.Truths.{and_true, or_true, or_false}

-- ---- one range

at_end : (r : Ordering) (s : Bool) → comes_after (ordering_reverse r) (not s) ≡ not (comes_after r s)
at_end Less s = refl
at_end Equal s = refl
at_end Greater s = refl

-- what comes after an end in one order doesn't in the other
turned : (a b : List ℕ) (s : Bool) → comes_after (slice_cmp nat_cmp a b) (not s) ≡ not (comes_after (slice_cmp nat_cmp b a) s)
turned a b s =
    ap (λ r. comes_after r (not s)) (turned_round (slice_cmp nat_cmp) nat_list_cmp_total b a (slice_cmp nat_cmp b a) refl) ∙ at_end (slice_cmp nat_cmp b a) s

pub before-start : (lower : Option (List ℕ)) (s : Bool) (text : List ℕ) → not_after (Some (start_text lower)) (not (start_strict lower s)) text ≡ not (not_before lower s text)
before-start None s [] = refl
before-start None s (c ∷ cs) = refl
before-start (Some lower) s text = turned lower text s

pub behind-end : (upper : List ℕ) (s : Bool) (text : List ℕ) → (not_before (Some upper) (not s) text && true) ≡ not (not_after (Some upper) s text)
behind-end upper s text = and_true (not_before (Some upper) (not s) text) ∙ turned text upper s

at_one : (r : Ordering) → (comes_after r false && comes_after (ordering_reverse r) false) ≡ is_eq r
at_one Less = refl
at_one Equal = refl
at_one Greater = refl

pub one-text : (text value : List ℕ) → (not_before (Some text) false value && not_after (Some text) false value) ≡ bytes_eq value text
one-text text value =
    ap (λ r. comes_after (slice_cmp nat_cmp value text) false && comes_after r false) (turned_round (slice_cmp nat_cmp) nat_list_cmp_total value text (slice_cmp nat_cmp value text) refl)
    ∙ at_one (slice_cmp nat_cmp value text) ∙ is_eq-slice_cmp value text

-- what lies outside of a range lies before or behind it
pub outside : (low high : Bool) → (not low || not high) ≡ not (low && high)
outside true high = refl
outside false high = refl

-- ---- ranges that rise

and_false : (b : Bool) → (b && false) ≡ false
and_false true = refl
and_false false = refl

-- a: in one of those so far; g: in a gap so far; l: behind the last of them; b and u: past the start and not past the end of the next
one_range : (a g l b u : Bool) → not a ≡ (g || l) → (g ≡ true → b ≡ false) → (u ≡ false → l ≡ true) → not (a || (b && u)) ≡ ((g || (l && not b)) || not u)
one_range a g l b false out low high =
    ap (λ x. not (a || x)) (and_false b) ∙ ap not (or_false a) ∙ out ∙ ap (λ x. g || x) (high refl) ∙ or_true g ∙ sym (or_true (g || (l && not b)))
one_range a true l true true out low high = absurd (cc (low refl))
one_range a false l true true out low high = ap not (or_true a) ∙ sym (ap (λ x. x || false) (and_false l))
one_range a g l false true out low high = ap not (or_false a) ∙ out ∙ sym (ap (λ x. g || x) (and_true l)) ∙ sym (or_false (g || (l && true)))

-- of the first of some ranges that rise: the gaps before and between them, and what is left behind them
pub record AreGaps (bs gaps : List Bounds) (left : Option Bounds) (n : ℕ) : Type 0 where
  pub within : n ≤ length bs
  pub low : (j : ℕ) (d : Bounds) (text : List ℕ) → n ≤ j → j < length bs → some_within gaps text ≡ true → begun text (get_or bs j d) ≡ false
  pub high : (j : ℕ) (d : Bounds) (text : List ℕ) → n ≤ j → j < length bs → unended text (get_or bs j d) ≡ false → lies_open left text ≡ true
  pub same : (text : List ℕ) → not (some_within (take n bs) text) ≡ (some_within gaps text || lies_open left text)

pub no_gaps : (bs gaps : List Bounds) (every : Bounds) → gaps ≡ [] → ((text : List ℕ) → lies_within every text ≡ true) → AreGaps bs gaps (Some every) 0
no_gaps bs gaps every none all = record {
  within = omega arith;
  low = λ j d text le lt h. absurd (cc (sym (ap (λ l. some_within l text) none) ∙ h));
  high = λ j d text le lt h. all text;
  same = λ text. sym (ap (λ l. some_within l text || lies_within every text) none ∙ all text);
}

module _ (bs gaps more : List Bounds) (left behind : Option Bounds) (n : ℕ) (b : Bounds) (up : Rise bs) (far : Reach bs) (lt : n < length bs) (is : b ≡ get_or bs n b) (was : AreGaps bs gaps left n)
    (put : (text : List ℕ) → some_within more text ≡ (some_within gaps text || (lies_open left text && not (begun text b)))) (rest : (text : List ℕ) → lies_open behind text ≡ not (unended text b)) where
  started : (j : ℕ) (d : Bounds) (text : List ℕ) → n ≤ j → j < length bs → begun text (get_or bs j d) ≡ true → begun text b ≡ true
  started j d text le less h = ap (begun text) is ∙ up n j b text le less (ap (begun text) (same_at bs j b d less) ∙ h)

  pub one_gap : AreGaps bs more behind (n + 1)
  one_gap = record {
    within = omega (arith, lt);
    low = low;
    high = high;
    same = λ text.
        ap not (list_any_more (λ c. lies_within c text) bs n b lt ∙ ap (λ c. some_within (take n bs) text || lies_within c text) (sym is))
        ∙ one_range (some_within (take n bs) text) (some_within gaps text) (lies_open left text) (begun text b) (unended text b) (was.same text) (λ h. ap (begun text) is ∙ was.low n b text (omega arith) lt h) (λ h. was.high n b text (omega arith) lt (sym (ap (unended text) is) ∙ h))
        ∙ sym (λ k. put text k || rest text k);
  }
    where
      first : (g l b : Bool) → (g || (l && not b)) ≡ true → b ≡ true → g ≡ true
      first true l b h e = refl
      first false l true h e = absurd (cc (sym h ∙ and_false l))
      first false l false h e = absurd (cc e)

      low : (j : ℕ) (d : Bounds) (text : List ℕ) → n + 1 ≤ j → j < length bs → some_within more text ≡ true → begun text (get_or bs j d) ≡ false
      low j d text le less h = at (begun text (get_or bs j d)) refl
        where
          at : (e : Bool) → begun text (get_or bs j d) ≡ e → e ≡ false
          at false e = refl
          at true e =
              let past : begun text b ≡ true = started j d text (omega (arith, le)) less e in
              let held : some_within gaps text ≡ true = first (some_within gaps text) (lies_open left text) (begun text b) (sym (put text) ∙ h) past in
              absurd (cc (sym e ∙ was.low j d text (omega (arith, le)) less held))

      high : (j : ℕ) (d : Bounds) (text : List ℕ) → n + 1 ≤ j → j < length bs → unended text (get_or bs j d) ≡ false → lies_open behind text ≡ true
      high j d text le less h = rest text ∙ ap not (at (unended text b) refl)
        where
          at : (e : Bool) → unended text b ≡ e → unended text b ≡ false
          at false e = e
          at true e =
              absurd (cc (sym (far n j d text (omega (arith, le)) less (sym (ap (unended text) (is ∙ same_at bs n b d lt)) ∙ e)) ∙ h))
