-- Ranges in the order of their lower ends, of which the last one that has begun tells of all.
use Rattle.std.proofs.Common.{◌≡◌, ◌∙◌, sym, refl, ap, subst, inl, inr, Bool, true, false, if◌then◌else◌, ◌&&◌, ◌||◌, ℕ, zero, suc, ◌+◌, ◌-◌, ◌<◌, ◌≤◌, List, [], ◌∷◌, ◌++◌, length, get_or, take, length-append, Option, Some, None, arith}
use Rattle.std.specs.List.{AllWithin}
use Rattle.std.specs.List.Sorted.{IsPartitionedBy, IsPermutation, IsSortedBy}
use Rattle.std.specs.Cmp.{IsTotalOrder, IsStrictWeakOrder, bool_cmp_total, then_total, on_total}
use Rattle.std.specs.Ordering.{nat_cmp, bool_cmp, ordering_then, is_lt}
use Rattle.std.specs.Cmp.Lexicographic.{slice_cmp, nat_list_cmp_total}
use Rattle.std.specs.declared.cmp.Ordering.{Ordering}
use Rattle.std.specs.declared.cmp.Ordering.TheVariants.{Less, Equal, Greater}
use Rattle.std.proofs.lemmas.Bool.{cases_lt}
use Rattle.std.proofs.lemmas.List.Folds.{list_any-append, list_any_more}
use Rattle.std.proofs.lemmas.List.MinMax.{ranks_by}
use Rattle.std.proofs.lemmas.List.Sorted.{sorted_far, list_any-IsPermutation}
use native.Mathlib.Numerals.{unary_clauses}
use Rattle.dr_predicate.specs.declared.bounds.Bounds.{Bounds}
use Rattle.dr_predicate.specs.Within.{comes_after, not_before, lies_within, some_within}
use Rattle.dr_predicate.specs.Ends.{ends_before}
use Rattle.dr_predicate.specs.Ranges.{start_text, start_strict, start_order, begun, unended, ends_within, with_outer, Rise, Reach}
use Rattle.dr_predicate.proofs.Ends.{same_place, far, past, upper-more, upper-less}
use Rattle.dr_base.proofs.Truths.{or_false}

-- ---- one text

and_no : (a b : Bool) → a ≡ false → (a && b) ≡ false
and_no true b h = absurd (cc h)
and_no false b h = refl

and_yes : (a b : Bool) → a ≡ true → (a && b) ≡ b
and_yes true b h = refl
and_yes false b h = absurd (cc h)

or_no : (a b : Bool) → a ≡ false → (a || b) ≡ b
or_no true b h = absurd (cc h)
or_no false b h = refl

or_same : (a b : Bool) → (a ≡ true → b ≡ true) → (a || b) ≡ b
or_same true b h = sym (h refl)
or_same false b h = refl

pub none_begun : (text : List ℕ) (bs : List Bounds) → AllWithin (λ b. begun text b ≡ false) bs 0 (length bs) → some_within bs text ≡ false
none_begun text [] high = refl
none_begun text (b ∷ bs) high =
    let here = and_no (begun text b) (unended text b) (high 0 b (omega arith) (omega arith)) in
    or_no (lies_within b text) (some_within bs text) here ∙ none_begun text bs (λ k d le lt. high (suc k) d (omega arith) (omega arith))

-- those behind the first
pub Reach-rest : (b : Bounds) (bs : List Bounds) → Reach (b ∷ bs) → Reach bs
Reach-rest b bs reach = λ i j d text le lt. reach (suc i) (suc j) d text (omega arith) (omega arith)

pub last_begun : (text : List ℕ) (bs : List Bounds) (k : ℕ) (d : Bounds) → Reach bs → k < length bs → AllWithin (λ b. begun text b ≡ true) bs 0 (suc k) → AllWithin (λ b. begun text b ≡ false) bs (suc k) (length bs) → some_within bs text ≡ unended text (get_or bs k d)
last_begun text [] k d reach lt low high = absurd (omega arith)
last_begun text (b ∷ bs) zero d reach lt low high =
    let here = and_yes (begun text b) (unended text b) (low 0 b (omega arith) (omega arith)) in
    (λ k. here k || none_begun text bs (λ j e le lt_j. high (suc j) e (omega arith) (omega arith)) k) ∙ or_false (unended text b)
last_begun text (b ∷ bs) (suc k) d reach lt low high =
    let here = and_yes (begun text b) (unended text b) (low 0 b (omega arith) (omega arith)) in
    let rest = last_begun text bs k d (Reach-rest b bs reach) (omega arith) (λ j e le lt_j. low (suc j) e (omega arith) (omega arith)) (λ j e le lt_j. high (suc j) e (omega arith) (omega arith)) in
    (λ j. here j || rest j) ∙ or_same (unended text b) (unended text (get_or bs k d)) (λ h. reach 0 (suc k) d text (omega arith) (omega arith) h)

pub held_at : (text : List ℕ) (bs : List Bounds) (place : ℕ) (d : Bounds) → Reach bs → (place ≡ 0 → ⊥) → place ≤ length bs
    → AllWithin (λ b. begun text b ≡ true) bs 0 place → AllWithin (λ b. begun text b ≡ false) bs place (length bs) → some_within bs text ≡ unended text (get_or bs (place - 1) d)
held_at text bs zero d reach some le low high = absurd (some refl)
held_at text bs (suc k) d reach some le low high =
    simp unary_clauses (last_begun text bs k d reach (omega arith) low high)

pub part : (text : List ℕ) (bs : List Bounds) → Rise bs → IsPartitionedBy (begun text) bs
part text bs rise i j d le lt h = rise i j d text le lt h

-- ---- the last of some ranges

pub same_at : (bs : List Bounds) (k : ℕ) (d e : Bounds) → k < length bs → get_or bs k d ≡ get_or bs k e
same_at [] k d e lt = absurd (omega arith)
same_at (b ∷ bs) zero d e lt = refl
same_at (b ∷ bs) (suc k) d e lt = same_at bs k d e (omega arith)

same_last : (x : Bounds) (xs : List Bounds) (d e : Bounds) → get_or (x ∷ xs) (length (x ∷ xs) - 1) d ≡ get_or (x ∷ xs) (length xs) e
same_last x xs d e =
    let place : length (x ∷ xs) - 1 ≡ length xs = omega arith in
    ap (λ i. get_or (x ∷ xs) i d) place ∙ same_at (x ∷ xs) (length xs) d e (omega arith)

pub ends_within-none : (bs : List Bounds) (b : Bounds) → length bs ≡ 0 → false ≡ ends_within bs b
ends_within-none [] b h = refl
ends_within-none (x ∷ xs) b h = absurd (omega (arith, h))

pub ends_within-last : (bs : List Bounds) (last e b : Bounds) → last ≡ get_or bs (length bs - 1) e → (length bs ≡ 0 → ⊥) → ends_before b.upper b.upper_strict last.upper ≡ ends_within bs b
ends_within-last [] last e b is some = absurd (some refl)
ends_within-last (x ∷ xs) last e b is some = ap (λ (y : Bounds). ends_before b.upper b.upper_strict y.upper) (is ∙ same_last x xs e b)

some_there : (bs : List Bounds) (b : Bounds) → ends_within bs b ≡ true → 0 < length bs
some_there [] b more = absurd (cc more)
some_there (x ∷ xs) b more = omega arith

-- what a range that ends no later lets in at its end, the last one does too
covered : (bs : List Bounds) (b : Bounds) → ends_within bs b ≡ true → (d : Bounds) (text : List ℕ) → unended text b ≡ true → unended text (get_or bs (length bs - 1) d) ≡ true
covered [] b more d text h = absurd (cc more)
covered (x ∷ xs) b more d text h =
    let last = get_or (x ∷ xs) (length xs) b in
    ap (unended text) (same_last x xs d b) ∙ upper-more text b.upper b.upper_strict last.upper last.upper_strict more h

-- and what the last one lets in, a range that ends later does too
behind : (bs : List Bounds) (b : Bounds) → ends_within bs b ≡ false → (d : Bounds) (text : List ℕ) → 0 < length bs → unended text (get_or bs (length bs - 1) d) ≡ true → unended text b ≡ true
behind [] b less d text lt h = absurd (omega (arith, lt))
behind (x ∷ xs) b less d text lt h =
    let last = get_or (x ∷ xs) (length xs) b in
    upper-less text b.upper b.upper_strict last.upper last.upper_strict less (sym (ap (unended text) (same_last x xs d b)) ∙ h)

-- ---- one range more

at_front : (bs : List Bounds) (x : Bounds) (k : ℕ) (d : Bounds) → k < length bs → get_or (bs ++ x ∷ []) k d ≡ get_or bs k d
at_front [] x k d lt = absurd (omega arith)
at_front (b ∷ bs) x zero d lt = refl
at_front (b ∷ bs) x (suc k) d lt = at_front bs x k d (omega arith)

at_back : (bs : List Bounds) (x : Bounds) (k : ℕ) (d : Bounds) → k ≡ length bs → get_or (bs ++ x ∷ []) k d ≡ x
at_back [] x zero d e = refl
at_back [] x (suc k) d e = absurd (omega (arith, e))
at_back (b ∷ bs) x zero d e = absurd (omega (arith, e))
at_back (b ∷ bs) x (suc k) d e = at_back bs x k d (omega (arith, e))

held_by : (text : List ℕ) (bs : List Bounds) (k : ℕ) (d : Bounds) → k < length bs → lies_within (get_or bs k d) text ≡ true → some_within bs text ≡ true
held_by text [] k d lt h = absurd (omega arith)
held_by text (b ∷ bs) zero d lt h = ap (λ a. a || some_within bs text) h
held_by text (b ∷ bs) (suc k) d lt h = or_last (lies_within b text) (some_within bs text) (held_by text bs k d (omega arith) h)
  where
    or_last : (a c : Bool) → c ≡ true → (a || c) ≡ true
    or_last true c e = refl
    or_last false c e = e

both_true : (a b : Bool) → a ≡ true → b ≡ true → (a && b) ≡ true
both_true a b h k = and_yes a b h ∙ k

and_first : (a b : Bool) → (a && b) ≡ true → a ≡ true
and_first true b h = refl
and_first false b h = absurd (cc h)

and_second : (a b : Bool) → (a && b) ≡ true → b ≡ true
and_second true b h = h
and_second false b h = absurd (cc h)

or_left : (a b : Bool) → (b ≡ true → a ≡ true) → a ≡ (a || b)
or_left true b h = refl
or_left false true h = h refl
or_left false false h = refl

-- of the first of some ranges those that end behind all before them
pub record AreOuter (sorted bs : List Bounds) (n : ℕ) : Type 0 where
  pub within : n ≤ length sorted
  pub rise : Rise bs
  pub reach : Reach bs
  pub ahead : (k j : ℕ) (d e : Bounds) (text : List ℕ) → k < length bs → n ≤ j → j < length sorted → begun text (get_or sorted j e) ≡ true → begun text (get_or bs k d) ≡ true
  pub same : (text : List ℕ) → some_within bs text ≡ some_within (take n sorted) text

pub none_outer : (sorted : List Bounds) → AreOuter sorted [] 0
none_outer sorted = record {
  within = omega arith;
  rise = λ i j d text le lt h. absurd (omega (arith, lt));
  reach = λ i j d text le lt h. absurd (omega (arith, lt));
  ahead = λ k j d e text lt le less h. absurd (omega (arith, lt));
  same = λ text. refl;
}

module _ (sorted bs : List Bounds) (n : ℕ) (b : Bounds) (up : Rise sorted) (lt : n < length sorted) (is : b ≡ get_or sorted n b) (was : AreOuter sorted bs n) where
  told : (text : List ℕ) → (some_within bs text || lies_within b text) ≡ some_within (take (n + 1) sorted) text
  told text = (λ k. was.same text k || lies_within (is k) text) ∙ sym (list_any_more (λ c. lies_within c text) sorted n b lt)

  passed_over : ends_within bs b ≡ true → AreOuter sorted bs (n + 1)
  passed_over more = record {
    within = omega (arith, lt);
    rise = was.rise;
    reach = was.reach;
    ahead = λ k j d e text front le less h. was.ahead k j d e text front (omega (arith, le)) less h;
    same = λ text. or_left (some_within bs text) (lies_within b text) (held text) ∙ told text;
  }
    where
      held : (text : List ℕ) → lies_within b text ≡ true → some_within bs text ≡ true
      held text h =
          let some = some_there bs b more in
          let last = get_or bs (length bs - 1) b in
          let started : begun text (get_or sorted n b) ≡ true = sym (ap (begun text) is) ∙ and_first (begun text b) (unended text b) h in
          held_by text bs (length bs - 1) b (omega (arith, some)) (both_true (begun text last) (unended text last)
          (was.ahead (length bs - 1) n b b text (omega (arith, some)) (omega arith) lt started)
          (covered bs b more b text (and_second (begun text b) (unended text b) h)))

  added : ends_within bs b ≡ false → AreOuter sorted (bs ++ b ∷ []) (n + 1)
  added less = record {
    within = omega (arith, lt);
    rise = rise;
    reach = reach;
    ahead = ahead;
    same = λ text. list_any-append (λ c. lies_within c text) bs (b ∷ []) ∙ ap (λ a. some_within bs text || a) (or_false (lies_within b text)) ∙ told text;
  }
    where
      count : length (bs ++ b ∷ []) ≡ length bs + 1
      count = length-append bs (b ∷ [])

      rise : Rise (bs ++ b ∷ [])
      rise i j d text le less_j h = elim (cases_lt j (length bs)) [
        | inl front ↦ ap (begun text) (at_front bs b i d (omega (arith, le, front))) ∙ was.rise i j d text le front (sym (ap (begun text) (at_front bs b j d front)) ∙ h)
        | inr back ↦ (let here : j ≡ length bs = omega (arith, back, less_j, count) in
            let started : begun text b ≡ true = sym (ap (begun text) (at_back bs b j d here)) ∙ h in
            elim (cases_lt i (length bs)) [
              | inl before ↦ ap (begun text) (at_front bs b i d before) ∙ was.ahead i n d b text before (omega arith) lt (sym (ap (begun text) is) ∙ started)
              | inr too ↦ ap (begun text) (at_back bs b i d (omega (arith, too, le, here))) ∙ started
            ])
      ]

      reach : Reach (bs ++ b ∷ [])
      reach i j d text le less_j h = elim (cases_lt j (length bs)) [
        | inl front ↦ ap (unended text) (at_front bs b j d front) ∙ was.reach i j d text le front (sym (ap (unended text) (at_front bs b i d (omega (arith, le, front)))) ∙ h)
        | inr back ↦ (let here : j ≡ length bs = omega (arith, back, less_j, count) in
            elim (cases_lt i (length bs)) [
              | inl before ↦ ap (unended text) (at_back bs b j d here) ∙ behind bs b less d text (omega (arith, before))
                  (was.reach i (length bs - 1) d text (omega (arith, before)) (omega (arith, before)) (sym (ap (unended text) (at_front bs b i d before)) ∙ h))
              | inr too ↦ ap (unended text) (at_back bs b j d here ∙ sym (at_back bs b i d (omega (arith, too, le, here)))) ∙ h
            ])
      ]

      ahead : (k j : ℕ) (d e : Bounds) (text : List ℕ) → k < length (bs ++ b ∷ []) → n + 1 ≤ j → j < length sorted → begun text (get_or sorted j e) ≡ true → begun text (get_or (bs ++ b ∷ []) k d) ≡ true
      ahead k j d e text less_k le less_j h = elim (cases_lt k (length bs)) [
        | inl front ↦ ap (begun text) (at_front bs b k d front) ∙ was.ahead k j d e text front (omega (arith, le)) less_j h
        | inr back ↦ (let here : k ≡ length bs = omega (arith, back, less_k, count) in
            ap (begun text) (at_back bs b k d here ∙ is) ∙ up n j b text (omega (arith, le)) less_j (ap (begun text) (same_at sorted j b e less_j) ∙ h))
      ]

  pub one_more : AreOuter sorted (with_outer bs b) (n + 1)
  one_more = at (ends_within bs b) refl
    where
      at : (t : Bool) → ends_within bs b ≡ t → AreOuter sorted (with_outer bs b) (n + 1)
      at true more = subst (λ t. AreOuter sorted (if◌then◌else◌ t bs (bs ++ b ∷ [])) (n + 1)) (sym more) (passed_over more)
      at false less = subst (λ t. AreOuter sorted (if◌then◌else◌ t bs (bs ++ b ∷ [])) (n + 1)) (sym less) (added less)

-- ---- sorted ranges

start_total : IsTotalOrder start_order
start_total = then_total (on_total (λ b. start_text b.lower) nat_list_cmp_total) (on_total (λ b. start_strict b.lower b.lower_strict) bool_cmp_total)

module _ (text : List ℕ) where
  same_start : (x y : List ℕ) (s other : Bool) → slice_cmp nat_cmp y x ≡ Equal → is_lt (bool_cmp other s) ≡ false → comes_after (slice_cmp nat_cmp text y) other ≡ true → comes_after (slice_cmp nat_cmp text x) s ≡ true
  same_start x y s true e low h = past (slice_cmp nat_cmp) nat_list_cmp_total (slice_cmp nat_cmp text x) s (ap (λ r. comes_after r true) (sym (same_place (slice_cmp nat_cmp) nat_list_cmp_total text y x e)) ∙ h)
  same_start x y true false e low h = absurd (cc low)
  same_start x y false false e low h = ap (λ r. comes_after r false) (sym (same_place (slice_cmp nat_cmp) nat_list_cmp_total text y x e)) ∙ h

  from_empty : comes_after (slice_cmp nat_cmp text []) false ≡ true
  from_empty = at text
    where
      at : (t : List ℕ) → comes_after (slice_cmp nat_cmp t []) false ≡ true
      at [] = refl
      at (c ∷ cs) = refl

  begun_too : (a b : Option (List ℕ)) (s other : Bool) → is_lt (ordering_then (slice_cmp nat_cmp (start_text b) (start_text a)) (bool_cmp (start_strict b other) (start_strict a s))) ≡ false → not_before b other text ≡ true → not_before a s text ≡ true
  begun_too None b s other low h = refl
  begun_too (Some []) None true other low h = absurd (cc low)
  begun_too (Some []) None false other low h = from_empty
  begun_too (Some (x ∷ xs)) None s other low h = absurd (cc low)
  begun_too (Some x) (Some y) s other low h = at (slice_cmp nat_cmp y x) refl
    where
      at : (r : Ordering) → slice_cmp nat_cmp y x ≡ r → comes_after (slice_cmp nat_cmp text x) s ≡ true
      at Less e = absurd (cc (sym (ap (λ r. is_lt (ordering_then r (bool_cmp other s))) e) ∙ low))
      at Equal e = same_start x y s other e (sym (ap (λ r. is_lt (ordering_then r (bool_cmp other s))) e) ∙ low) h
      at Greater e = far (slice_cmp nat_cmp) nat_list_cmp_total text y x other s e h

pub starts_rank : IsStrictWeakOrder (λ (a b : Bounds). is_lt (start_order a b))
starts_rank = ranks_by start_total (λ (b : Bounds). b)

pub sorted-rise : (bs : List Bounds) → IsSortedBy (λ a b. is_lt (start_order a b)) bs → Rise bs
sorted-rise bs up i j d text le lt h =
    let a = get_or bs i d in let b = get_or bs j d in
    begun_too text a.lower b.lower a.lower_strict b.lower_strict (sorted_far (λ a b. is_lt (start_order a b)) starts_rank bs up i j d le lt) h

pub sorted-held : (is js : List Bounds) → IsPermutation is js → (text : List ℕ) → some_within js text ≡ some_within is text
sorted-held is js moved text = sym (list_any-IsPermutation (λ b. lies_within b text) is js moved)

-- ---- ranges that are handed over one by one

-- what comes next stands behind all that came
pub is_next : (came left all : List Bounds) (b : Bounds) → came ++ (b ∷ left) ≡ all → (length came < length all) × (b ≡ get_or all (length came) b)
is_next came left all b is = subst (λ l. (length came < length l) × (b ≡ get_or l (length came) b)) is (at came)
  where
    at : (came : List Bounds) → (length came < length (came ++ (b ∷ left))) × (b ≡ get_or (came ++ (b ∷ left)) (length came) b)
    at [] = (omega arith, refl)
    at (x ∷ xs) = let rest = at xs in ((let lt = rest.0 in omega (arith, lt)), rest.1)

pub one_longer : (came : List Bounds) (b : Bounds) → length (came ++ b ∷ []) ≡ length came + 1
one_longer came b = length-append came (b ∷ [])
