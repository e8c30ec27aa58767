-- Texts as they are read from one side: which begins with which, and a search among texts that rise.
use Rattle.std.proofs.Common.{◌≡◌, ◌∙◌, sym, refl, ap, arith, ◌⊎◌, inl, inr, ℕ, zero, suc, ◌+◌, ◌-◌, ◌<◌, ◌≤◌, ◌==◌, nat_lt, nat_eq, Bool, true, false, cond, ◌||◌, ◌&&◌, if◌then◌else◌, List, [], ◌∷◌, ◌++◌, length, get_or, true≢false, lt-ltb, subst}
use Rattle.std.specs.List.{starts_with, AllByRecursion, AllWithin}
use Rattle.std.specs.List.Sorted.{IsPartitionedBy, IsSortedBy, IsPermutation}
use Rattle.std.specs.Ordering.{nat_cmp, is_le, is_lt, ordering_then, ordering_reverse}
use Rattle.std.specs.declared.cmp.Ordering.{Ordering}
use Rattle.std.specs.declared.cmp.Ordering.TheVariants.{Less, Equal, Greater}
use Rattle.std.specs.Cmp.Lexicographic.{slice_cmp, nat_list_cmp_total}
use Rattle.std.proofs.lemmas.Bool.{and_parts, and_right, or_right, eqb-true, eq-eqb, ltb-true}
use Rattle.std.proofs.lemmas.List.Sorted.{sorted_far, ranks_by, All-permutation}
use Rattle.std.proofs.lemmas.Bool.Decides.{nat_tests}
use Rattle.dr_patterns.specs.Begun.{begins, is_below, is_at_most, begins_some, Rise, InOrder, outer_behind}

-- ---- what the code tests

pub begins-starts_with : (s t : List ℕ) → starts_with nat_eq t s ≡ begins s t
begins-starts_with [] t = refl
begins-starts_with (c ∷ cs) [] = refl
begins-starts_with (c ∷ cs) (d ∷ ds) = ap (λ b. (c == d) && b) (begins-starts_with cs ds)

first_decides : (less same begun below : Bool) (o : Ordering) → begun || below ≡ is_le o → same && begun || (less || same && below) ≡ is_le (ordering_then (cond less Less (cond same Equal Greater)) o)
first_decides true true true below o is = refl
first_decides true true false below o is = refl
first_decides true false begun below o is = refl
first_decides false true begun below o is = is
first_decides false false begun below o is = refl

pub at_most-le : (s t : List ℕ) → is_at_most s t ≡ is_le (slice_cmp nat_cmp s t)
at_most-le [] [] = refl
at_most-le [] (d ∷ ds) = refl
at_most-le (c ∷ cs) [] = refl
at_most-le (c ∷ cs) (d ∷ ds) = first_decides (nat_lt c d) (c == d) (begins cs ds) (is_below cs ds) (slice_cmp nat_cmp cs ds) (at_most-le cs ds)

-- ---- what comes before what

below_here : (c d : ℕ) (cs ds : List ℕ) → c < d → is_below (c ∷ cs) (d ∷ ds) ≡ true
below_here c d cs ds less = ap (λ b. b || (c == d) && is_below cs ds) (lt-ltb c d less)

below_later : (c d : ℕ) (cs ds : List ℕ) → c ≡ d → is_below cs ds ≡ true → is_below (c ∷ cs) (d ∷ ds) ≡ true
below_later c d cs ds same is = ap (λ b. nat_lt c d || b && is_below cs ds) (eq-eqb c d same) ∙ ap (λ b. nat_lt c d || b) is ∙ or_right (nat_lt c d) true refl

below_parts : (c d : ℕ) (cs ds : List ℕ) → is_below (c ∷ cs) (d ∷ ds) ≡ true → (c < d) ⊎ ((c ≡ d) × (is_below cs ds ≡ true))
below_parts c d cs ds is = at (nat_lt c d) refl is
  where
    at : (b : Bool) → nat_lt c d ≡ b → b || (c == d) && is_below cs ds ≡ true → (c < d) ⊎ ((c ≡ d) × (is_below cs ds ≡ true))
    at true less h = inl (ltb-true c d less)
    at false other h = let both = and_parts (c == d) (is_below cs ds) h in inr (eqb-true c d both.0, both.1)

at_most_parts : (c d : ℕ) (cs ds : List ℕ) → is_at_most (c ∷ cs) (d ∷ ds) ≡ true → (c < d) ⊎ ((c ≡ d) × (is_at_most cs ds ≡ true))
at_most_parts c d cs ds is = at (begins (c ∷ cs) (d ∷ ds)) refl is
  where
    at : (b : Bool) → begins (c ∷ cs) (d ∷ ds) ≡ b → b || is_below (c ∷ cs) (d ∷ ds) ≡ true → (c < d) ⊎ ((c ≡ d) × (is_at_most cs ds ≡ true))
    at true begun h = let both = and_parts (c == d) (begins cs ds) begun in inr (eqb-true c d both.0, ap (λ b. b || is_below cs ds) both.1)
    at false other h = elim (below_parts c d cs ds h) [ inl less ↦ inl less | inr both ↦ inr (both.0, ap (λ b. begins cs ds || b) both.1 ∙ or_right (begins cs ds) true refl) ]

pub below_then : (a b t : List ℕ) → is_below a b ≡ true → is_at_most b t ≡ true → is_below a t ≡ true
below_then [] b t below most = absurd (true≢false (sym below))
below_then (x ∷ xs) [] t below most = absurd (true≢false (sym below))
below_then (x ∷ xs) (y ∷ ys) [] below most = absurd (true≢false (sym most))
below_then (x ∷ xs) (y ∷ ys) (c ∷ cs) below most = at (below_parts x y xs ys below) (at_most_parts y c ys cs most) (below_then xs ys cs)
  where
    at : (x < y) ⊎ ((x ≡ y) × (is_below xs ys ≡ true)) → (y < c) ⊎ ((y ≡ c) × (is_at_most ys cs ≡ true)) → (is_below xs ys ≡ true → is_at_most ys cs ≡ true → is_below xs cs ≡ true) → is_below (x ∷ xs) (c ∷ cs) ≡ true
    at (inl p) (inl q) rest = below_here x c xs cs (omega arith)
    at (inl p) (inr q) rest = (let same = q.0 in below_here x c xs cs (omega arith))
    at (inr p) (inl q) rest = (let same = p.0 in below_here x c xs cs (omega arith))
    at (inr p) (inr q) rest = below_later x c xs cs (p.0 ∙ q.0) (rest p.1 q.1)

pub below_most : (a b : List ℕ) → is_below a b ≡ true → is_at_most a b ≡ true
below_most a b is = ap (λ x. begins a b || x) is ∙ or_right (begins a b) true refl

apart : (a t : List ℕ) → is_below a t ≡ true → begins a t ≡ false
apart [] t below = absurd (true≢false (sym below))
apart (x ∷ xs) [] below = refl
apart (x ∷ xs) (c ∷ cs) below = at (below_parts x c xs cs below) (apart xs cs)
  where
    at : (x < c) ⊎ ((x ≡ c) × (is_below xs cs ≡ true)) → (is_below xs cs ≡ true → begins xs cs ≡ false) → (x == c) && begins xs cs ≡ false
    at (inl less) rest = let other : (x == c) ≡ false = grind (arith, nat_tests) in ap (λ b. b && begins xs cs) other
    at (inr same) rest = and_right (x == c) (begins xs cs) (rest same.1)

not_begun : (a t : List ℕ) → is_at_most a t ≡ false → begins a t ≡ false
not_begun a t not_most = at (begins a t) refl not_most
  where
    at : (b : Bool) → begins a t ≡ b → b || is_below a t ≡ false → b ≡ false
    at true is h = h
    at false is h = refl

-- ---- what begins with it goes on behind it

pub begins-front : (s r : List ℕ) → begins s (s ++ r) ≡ true
begins-front [] r = refl
begins-front (c ∷ cs) r = ap (λ b. b && begins cs (cs ++ r)) (eq-eqb c c refl) ∙ begins-front cs r

pub front-begins : (s t : List ℕ) → begins s t ≡ true → (r : List ℕ) × (t ≡ s ++ r)
front-begins [] t is = (t, refl)
front-begins (c ∷ cs) [] is = absurd (true≢false (sym is))
front-begins (c ∷ cs) (d ∷ ds) is =
    let both = and_parts (c == d) (begins cs ds) is in
    let rest = front-begins cs ds both.1 in
    (rest.0, ap (λ l. d ∷ l) rest.1 ∙ ap (λ x. x ∷ (cs ++ rest.0)) (sym (eqb-true c d both.0)))

-- ---- a search

all_at : (P : List ℕ → Type 0) (xs : List (List ℕ)) (k : ℕ) (d : List ℕ) → AllByRecursion P xs → k < length xs → P (get_or xs k d)
all_at P [] k d all lt = absurd (omega arith)
all_at P (x ∷ xs) zero d all lt = all.0
all_at P (x ∷ xs) (suc k) d all lt = all_at P xs k d all.1 (omega arith)

module _ (f : List ℕ → List ℕ) (t : List ℕ) where
  pub rise-part : (xs : List (List ℕ)) → Rise f xs → IsPartitionedBy (λ s. is_at_most (f s) t) xs
  rise-part [] rise i j d le lt h = absurd (omega arith)
  rise-part (x ∷ xs) rise zero zero d le lt h = h
  rise-part (x ∷ xs) rise zero (suc j) d le lt h = below_most (f x) t (below_then (f x) (f (get_or xs j d)) t (all_at (λ y. is_below (f x) (f y) ≡ true) xs j d rise.0 (omega arith)) h)
  rise-part (x ∷ xs) rise (suc i) zero d le lt h = absurd (omega arith)
  rise-part (x ∷ xs) rise (suc i) (suc j) d le lt h = rise-part xs rise.1 i j d (omega arith) (omega arith) h

  pub none-begins : (xs : List (List ℕ)) → AllWithin (λ s. is_at_most (f s) t ≡ false) xs 0 (length xs) → begins_some f xs t ≡ false
  none-begins [] high = refl
  none-begins (x ∷ xs) high =
      ap (λ b. b || begins_some f xs t) (not_begun (f x) t (high 0 x (omega arith) (omega arith)))
      ∙ none-begins xs (λ k d low lt. high (suc k) d (omega arith) (omega arith))

  one-begins : (xs : List (List ℕ)) (i : ℕ) (d : List ℕ) → Rise f xs → i < length xs → is_at_most (f (get_or xs i d)) t ≡ true → AllWithin (λ s. is_at_most (f s) t ≡ false) xs (suc i) (length xs)
      → begins_some f xs t ≡ begins (f (get_or xs i d)) t
  one-begins [] i d rise lt here high = absurd (omega arith)
  one-begins (x ∷ xs) zero d rise lt here high =
      ap (λ b. begins (f x) t || b) (none-begins xs (λ k e low less. high (suc k) e (omega arith) (omega arith))) ∙ or_none (begins (f x) t)
    where
      or_none : (b : Bool) → b || false ≡ b
      or_none true = refl
      or_none false = refl
  one-begins (x ∷ xs) (suc i) d rise lt here high =
      ap (λ b. b || begins_some f xs t) (apart (f x) t (below_then (f x) (f (get_or xs i d)) t (all_at (λ y. is_below (f x) (f y) ≡ true) xs i d rise.0 (omega arith)) here))
      ∙ one-begins xs i d rise.1 (omega arith) here (λ k e low less. high (suc k) e (omega arith) (omega arith))

  -- the last that comes before the text
  pub some-begins : (xs : List (List ℕ)) (place : ℕ) (d : List ℕ) → Rise f xs → (place ≡ 0 → ⊥) → place ≤ length xs → AllWithin (λ s. is_at_most (f s) t ≡ true) xs 0 place → AllWithin (λ s. is_at_most (f s) t ≡ false) xs place (length xs)
      → begins_some f xs t ≡ begins (f (get_or xs (place - 1) d)) t
  some-begins xs zero d rise some le low high = absurd (some refl)
  some-begins xs (suc i) d rise some le low high = one-begins xs i d rise (omega arith) (low i d (omega arith) (omega arith)) high ∙ ap (λ n. begins (f (get_or xs n d)) t) (omega arith)

-- ---- those that begin with another one

begun_by : (s u t : List ℕ) → begins s u ≡ true → begins u t ≡ true → begins s t ≡ true
begun_by [] u t a b = refl
begun_by (x ∷ xs) [] t a b = absurd (true≢false (sym a))
begun_by (x ∷ xs) (y ∷ ys) [] a b = absurd (true≢false (sym b))
begun_by (x ∷ xs) (y ∷ ys) (c ∷ cs) a b =
    let p = and_parts (x == y) (begins xs ys) a in
    let q = and_parts (y == c) (begins ys cs) b in
    ap (λ e. e && begins xs cs) (eq-eqb x c (eqb-true x y p.0 ∙ eqb-true y c q.0)) ∙ begun_by xs ys cs p.1 q.1

begun_too : (t s u : List ℕ) → begins s u ≡ true → (rest : Bool) → begins s t || rest ≡ begins s t || (begins u t || rest)
begun_too t s u begun rest = at (begins s t) (begins u t) refl refl
  where
    at : (a b : Bool) → begins s t ≡ a → begins u t ≡ b → a || rest ≡ a || (b || rest)
    at true b a_is b_is = refl
    at false false a_is b_is = refl
    at false true a_is b_is = absurd (true≢false (sym (begun_by s u t begun b_is) ∙ a_is))

module _ (f : List ℕ → List ℕ) where
  pub outer-same : (t s : List ℕ) (ss : List (List ℕ)) → begins_some f (s ∷ outer_behind f s ss) t ≡ begins_some f (s ∷ ss) t
  outer-same t s [] = refl
  outer-same t s (u ∷ us) = at (begins (f s) (f u)) refl (outer-same t s us) (outer-same t u us)
    where
      at : (b : Bool) → begins (f s) (f u) ≡ b → begins_some f (s ∷ outer_behind f s us) t ≡ begins_some f (s ∷ us) t → begins_some f (u ∷ outer_behind f u us) t ≡ begins_some f (u ∷ us) t
          → begins_some f (s ∷ (if b then outer_behind f s us else u ∷ outer_behind f u us)) t ≡ begins_some f (s ∷ u ∷ us) t
      at true begun kept other = kept ∙ begun_too t (f s) (f u) begun (begins_some f us t)
      at false begun kept other = ap (λ b. begins (f s) t || b) other

  all_below : (s u : List ℕ) (us : List (List ℕ)) → is_below (f s) (f u) ≡ true → AllByRecursion (λ v. is_below (f u) (f v) ≡ true) us → AllByRecursion (λ v. is_below (f s) (f v) ≡ true) us
  all_below s u [] below all = tt
  all_below s u (v ∷ vs) below all = (below_then (f s) (f u) (f v) below (below_most (f u) (f v) all.0), all_below s u vs below all.1)

  pub outer-rise : (s : List ℕ) (ss : List (List ℕ)) → InOrder f (s ∷ ss) → Rise f (s ∷ outer_behind f s ss)
  outer-rise s [] order = (tt, tt)
  outer-rise s (u ∷ us) order = at (begins (f s) (f u)) refl order.0.0 (outer-rise s us (order.0.1, order.1.1)) (outer-rise u us order.1)
    where
      at : (b : Bool) → begins (f s) (f u) ≡ b → b || is_below (f s) (f u) ≡ true → Rise f (s ∷ outer_behind f s us) → Rise f (u ∷ outer_behind f u us) → Rise f (s ∷ (if b then outer_behind f s us else u ∷ outer_behind f u us))
      at true begun most kept other = kept
      at false begun most kept other = ((most, all_below s u (outer_behind f u us) most other.0), other)

-- ---- texts that were sorted

all_from_places : (P : List ℕ → Type 0) (xs : List (List ℕ)) → ((k : ℕ) → k < length xs → P (get_or xs k [])) → AllByRecursion P xs
all_from_places P [] each = tt
all_from_places P (x ∷ xs) each = (each 0 (omega arith), all_from_places P xs (λ k lt. each (suc k) (omega arith)))

next : (k : ℕ) → suc k + 1 ≡ suc (k + 1)
next k = omega arith

not_less : (s u : List ℕ) → is_lt (slice_cmp nat_cmp u s) ≡ false → is_at_most s u ≡ true
not_less s u not_lt = at_most-le s u ∙ ap is_le (nat_list_cmp_total.antisymm s u) ∙ at (slice_cmp nat_cmp u s) not_lt
  where
    at : (o : Ordering) → is_lt o ≡ false → is_le (ordering_reverse o) ≡ true
    at Less h = sym h ∙ absurd (true≢false h)
    at Equal h = refl
    at Greater h = refl

module _ (f : List ℕ → List ℕ) where
  abbrev pub is_less : List ℕ → List ℕ → Bool
  is_less a b = is_lt (slice_cmp nat_cmp (f a) (f b))

  pub in_order : (xs : List (List ℕ)) → IsSortedBy is_less xs → InOrder f xs
  in_order [] up = tt
  in_order (x ∷ xs) up = (
    all_from_places (λ y. is_at_most (f x) (f y) ≡ true) xs (λ k lt. not_less (f x) (f (get_or xs k [])) (sorted_far is_less (ranks_by nat_list_cmp_total f) (x ∷ xs) up 0 (suc k) [] (omega arith) (omega arith))),
    in_order xs (λ k d low lt. subst (λ n. is_less (get_or (x ∷ xs) n d) (get_or xs k d) ≡ false) (next k) (up (suc k) d (omega arith) (omega arith))),
  )

-- ---- what holds of each holds of those that are kept

module _ (P : List ℕ → Type 0) where
  outer-all : (f : List ℕ → List ℕ) (s : List ℕ) (ss : List (List ℕ)) → AllByRecursion P ss → AllByRecursion P (outer_behind f s ss)
  outer-all f s [] all = tt
  outer-all f s (u ∷ us) all = at (begins (f s) (f u)) (outer-all f s us all.1) (outer-all f u us all.1)
    where
      at : (b : Bool) → AllByRecursion P (outer_behind f s us) → AllByRecursion P (outer_behind f u us) → AllByRecursion P (if b then outer_behind f s us else u ∷ outer_behind f u us)
      at true kept other = kept
      at false kept other = (all.0, other)

  pub outer_of-all : (f : List ℕ → List ℕ) (s : List ℕ) (ss : List (List ℕ)) → AllByRecursion P (s ∷ ss) → AllByRecursion P (s ∷ outer_behind f s ss)
  outer_of-all f s ss all = (all.0, outer-all f s ss all.1)

  pub all-permuted : (xs ys : List (List ℕ)) → IsPermutation xs ys → AllByRecursion P xs → AllByRecursion P ys
  all-permuted xs ys moved all = let each = All-permutation P xs ys moved (λ k d lt. all_at P xs k d all lt) in all_from_places P ys (λ k lt. each k [] lt)
