-- How rows compare: by the numbers of their values as by the values themselves. And what order says of their times.
use Rattle.std.proofs.Common.{◌≡◌, ◌∙◌, sym, refl, ap, ℕ, ℤ, pos, zero, suc, ◌+◌, ◌-◌, ◌<◌, ◌≤◌, ◌≤ℤ◌, ◌<ℤ◌, Bool, true, false, cond, ◌&&◌, List, [], ◌∷◌, length, map, get_or, arith, true≢false, nat_lt, ◌==◌, slice_get, Some, All}
use Rattle.std.specs.List.{list_all, range_with_len, AllByRecursion}
use Rattle.std.specs.declared.cmp.Ordering.{Ordering}
use Rattle.std.specs.declared.cmp.Ordering.TheVariants.{Less, Equal, Greater}
use Rattle.std.specs.Ordering.{nat_cmp, int_cmp, ordering_then, ordering_reverse, MatchOrdering}
use Rattle.std.specs.Cmp.Lexicographic.{slice_cmp, nat_list_cmp_total}
use Rattle.std.proofs.lemmas.Cmp.{tied_itself, nat_cmp_total, int_ranked}
use Rattle.std.proofs.lemmas.Bool.{lt-ltb, ltb-true, ltb-false}
use Rattle.std.proofs.lemmas.Int.{ints}
use Rattle.std.proofs.lemmas.Option.{get_or_from_slice_get}
use Rattle.std.proofs.lemmas.List.{get_or_default}
use Rattle.std.proofs.lemmas.List.FromFn.{length-range_with_len, get_or-range_with_len}
use Rattle.dr_image.specs.Table.{Column, Table, value_at, row_at, rows_of}
use Rattle.dr_image.specs.Sealed.{each_next, goes_on, may_follow}
use Rattle.dr_image.specs.Layout.{Part, column_in}
use Rattle.dr_image.specs.Opening.{is_below, numbers_at, rank_cmp, ranks_fit}
use Rattle.dr_image.proofs.DictionaryLemmas.{less_from, first_below, rest_ascends, above_at}
use Rattle.dr_image.proofs.ReadingLemmas.{all_at}
use Rattle.dr_image.proofs.TableLemmas.{IsListed, maps}

-- ---- values and their numbers

place_below : (ds : List (List ℕ)) (a b : ℕ) → each_next is_below ds ≡ true → a < b → b < length ds → is_below (get_or ds a []) (get_or ds b []) ≡ true
place_below [] a b up lt inside = absurd (omega arith)
place_below (d ∷ ds) zero zero up lt inside = absurd (omega arith)
place_below (d ∷ ds) zero (suc b) up lt inside = above_at d ds b (first_below d ds up) (omega arith)
place_below (d ∷ ds) (suc a) zero up lt inside = absurd (omega arith)
place_below (d ∷ ds) (suc a) (suc b) up lt inside = place_below ds a b (rest_ascends d ds up) (omega arith) (omega arith)

nat_below : (a b : ℕ) → a < b → nat_cmp a b ≡ Less
nat_below a b lt = ap (λ t. cond t Less (cond (a == b) Equal Greater)) (lt-ltb a b lt)

abbrev cmp_at : List (List ℕ) → ℕ → ℕ → Ordering
cmp_at ds a b = slice_cmp nat_cmp (get_or ds a []) (get_or ds b [])

below_at : (ds : List (List ℕ)) (a b : ℕ) → each_next is_below ds ≡ true → a < b → b < length ds → cmp_at ds a b ≡ Less
below_at ds a b up lt inside = less_from (cmp_at ds a b) (place_below ds a b up lt inside)

by_order : {P : Type 0} (a b : ℕ) → (a < b → P) → (a ≡ b → P) → (b < a → P) → P
by_order {P} a b f g h = at (nat_lt a b) (nat_lt b a) refl refl
  where
    at : (s t : Bool) → nat_lt a b ≡ s → nat_lt b a ≡ t → P
    at true t p q = f (ltb-true a b p)
    at false true p q = h (ltb-true b a q)
    at false false p q = let u : b ≤ a = ltb-false a b p in let v : a ≤ b = ltb-false b a q in g (omega (arith, u, v))

pub place_cmp : (ds : List (List ℕ)) (a b : ℕ) → each_next is_below ds ≡ true → a < length ds → b < length ds → cmp_at ds a b ≡ nat_cmp a b
place_cmp ds a b up low high =
    by_order a b
    (λ lt. below_at ds a b up lt high ∙ sym (nat_below a b lt))
    (λ e. ap (λ k. cmp_at ds a k) (sym e) ∙ tied_itself nat_list_cmp_total (get_or ds a []) ∙ sym (tied_itself nat_cmp_total a) ∙ ap (nat_cmp a) e)
    (λ gt. nat_list_cmp_total.antisymm (get_or ds a []) (get_or ds b []) ∙ ap ordering_reverse (below_at ds b a up gt low ∙ sym (nat_below b a gt)) ∙ sym (nat_cmp_total.antisymm a b))

dims_cmp : (n i j : ℕ) (cs : List Column) → AllByRecursion (IsListed n) cs → i < n → j < n
    → slice_cmp (slice_cmp nat_cmp) (map (λ c. value_at c i) cs) (map (λ c. value_at c j) cs) ≡ slice_cmp nat_cmp (map (λ (c : Column). get_or c.numbers i 0) cs) (map (λ (c : Column). get_or c.numbers j 0) cs)
dims_cmp n i j [] all lt_i lt_j = refl
dims_cmp n i j (c ∷ cs) all lt_i lt_j =
    let one = place_cmp c.dictionary (get_or c.numbers i 0) (get_or c.numbers j 0) all.0.rises (all.0.below i lt_i) (all.0.below j lt_j) in
    let rest = dims_cmp n i j cs all.1 lt_i lt_j in
    λ k. ordering_then (one k) (rest k)

-- ---- rows in order

next_range : {A : Type 0} (r : A → A → Bool) (f : ℕ → A) (a k : ℕ) → each_next r (map f (range_with_len a (suc k))) ≡ list_all (λ i. r (f i) (f (i + 1))) (range_with_len a k)
unfolding each_next
next_range r f a zero = refl
next_range r f a (suc k) = ap (λ b. r (f a) (f (a + 1)) && b) (next_range r f (a + 1) k)

all_agree : (p q : ℕ → Bool) (a k : ℕ) → ((i : ℕ) → i < a + k → p i ≡ q i) → list_all p (range_with_len a k) ≡ list_all q (range_with_len a k)
all_agree p q a zero agree = refl
all_agree p q a (suc k) agree = let here = agree a (omega arith) in let rest = all_agree p q (a + 1) k (λ i lt. agree i (omega arith)) in λ i. here i && rest i

numbers_seen : (parts : List Part) (dims : List Column) (i : ℕ) → map column_in parts ≡ dims → map (λ (c : Column). get_or c.numbers i 0) dims ≡ numbers_at parts i
numbers_seen parts dims i are = ap (map (λ (c : Column). get_or c.numbers i 0)) (sym are) ∙ maps (λ (c : Column). get_or c.numbers i 0) column_in parts

row_cmp : (t : Table) (parts : List Part) (i j : ℕ) → map column_in parts ≡ t.dims → AllByRecursion (IsListed (length t.times)) t.dims → i < length t.times → j < length t.times
    → may_follow t.rollup (row_at t i) (row_at t j) ≡ goes_on t.rollup (rank_cmp t.times parts i j)
unfolding row_at
row_cmp t parts i j are listed lt_i lt_j =
    let times : Ordering = int_cmp (get_or t.times i (pos 0)) (get_or t.times j (pos 0)) in
    let a = dims_cmp (length t.times) i j t.dims listed lt_i lt_j in
    let b = numbers_seen parts t.dims i are in
    let c = numbers_seen parts t.dims j are in
    (λ k. goes_on t.rollup (ordering_then times (a k))) ∙ (λ k. goes_on t.rollup (ordering_then times (slice_cmp nat_cmp (b k) (c k))))

pub order_is : (t : Table) (parts : List Part) → 1 ≤ length t.times → map column_in parts ≡ t.dims → AllByRecursion (IsListed (length t.times)) t.dims
    → each_next (may_follow t.rollup) (rows_of t) ≡ ranks_fit t.rollup t.times parts
unfolding ranks_fit
order_is t parts some are listed =
    let k : ℕ = length t.times - 1 in
    let e : length t.times ≡ suc k = omega arith in
    ap (λ n. each_next (may_follow t.rollup) (map (row_at t) (range_with_len 0 n))) e
    ∙ next_range (may_follow t.rollup) (row_at t) 0 k
    ∙ all_agree (λ i. may_follow t.rollup (row_at t i) (row_at t (i + 1))) (λ i. goes_on t.rollup (rank_cmp t.times parts i (i + 1))) 0 k (λ i lt. row_cmp t parts i (i + 1) are listed (omega arith) (omega arith))

-- ---- times

goes_up : (rollup : Bool) (a b : ℤ) (o : Ordering) → goes_on rollup (ordering_then (int_cmp a b) o) ≡ true → a ≤ℤ b
goes_up rollup a b o fits = at (int_cmp a b) (int_ranked a b (int_cmp a b) refl) fits
  where
    never : (rollup : Bool) → goes_on rollup Greater ≡ true → ⊥
    never true e = true≢false (sym e)
    never false e = true≢false (sym e)

    at : (c : Ordering) → MatchOrdering c (a <ℤ b) (a ≡ b) (b <ℤ a) → goes_on rollup (ordering_then c o) ≡ true → a ≤ℤ b
    at Less h fits = omega (arith, ints, h)
    at Equal h fits = omega (arith, ints, h)
    at Greater h fits = absurd (never rollup fits)

next_up : (rollup : Bool) (times : List ℤ) (parts : List Part) (i : ℕ) → ranks_fit rollup times parts ≡ true → i + 1 < length times → get_or times i (pos 0) ≤ℤ get_or times (i + 1) (pos 0)
unfolding ranks_fit
next_up rollup times parts i fit lt =
    let k : ℕ = length times - 1 in
    let p : ℕ → Bool = λ j. goes_on rollup (rank_cmp times parts j (j + 1)) in
    let here : p (get_or (range_with_len 0 k) i 0) ≡ true = all_at p (range_with_len 0 k) i 0 fit (omega (arith, length-range_with_len 0 k)) in
    let at : get_or (range_with_len 0 k) i 0 ≡ i = get_or-range_with_len 0 k i 0 (omega arith) ∙ omega arith in
    goes_up rollup (get_or times i (pos 0)) (get_or times (i + 1) (pos 0)) (slice_cmp nat_cmp (numbers_at parts i) (numbers_at parts (i + 1))) (ap p (sym at) ∙ here)

-- times don't fall
pub times_up : (rollup : Bool) (times : List ℤ) (parts : List Part) (i k : ℕ) → ranks_fit rollup times parts ≡ true → i + k < length times → get_or times i (pos 0) ≤ℤ get_or times (i + k) (pos 0)
times_up rollup times parts i zero fit lt = let e : get_or times (i + 0) (pos 0) ≡ get_or times i (pos 0) = ap (λ n. get_or times n (pos 0)) (omega arith) in omega (arith, ints, e)
times_up rollup times parts i (suc k) fit lt =
    let a = times_up rollup times parts i k fit (omega arith) in
    let b = next_up rollup times parts (i + k) fit (omega arith) in
    let e : get_or times (i + suc k) (pos 0) ≡ get_or times (i + k + 1) (pos 0) = ap (λ n. get_or times n (pos 0)) (omega arith) in
    omega (arith, ints, a, b, e)

pub least_is : (rollup : Bool) (times : List ℤ) (parts : List Part) (z : ℤ) → ranks_fit rollup times parts ≡ true → slice_get times 0 ≡ Some z → All (λ t. z ≤ℤ t) times
least_is rollup times parts z fit at k d lt =
    let first : get_or times 0 (pos 0) ≡ z = get_or_from_slice_get times 0 z (pos 0) at in
    let here : get_or times k d ≡ get_or times k (pos 0) = get_or_default times k d (pos 0) lt in
    let place : get_or times (0 + k) (pos 0) ≡ get_or times k (pos 0) = ap (λ n. get_or times n (pos 0)) (omega arith) in
    let up = times_up rollup times parts 0 k fit (omega (arith, lt)) in
    omega (arith, ints, first, here, place, up)

pub greatest_is : (rollup : Bool) (times : List ℤ) (parts : List Part) (z : ℤ) → ranks_fit rollup times parts ≡ true → slice_get times (length times - 1) ≡ Some z → All (λ t. t ≤ℤ z) times
greatest_is rollup times parts z fit at k d lt =
    let left : ℕ = length times - 1 - k in
    let last : get_or times (length times - 1) (pos 0) ≡ z = get_or_from_slice_get times (length times - 1) z (pos 0) at in
    let here : get_or times k d ≡ get_or times k (pos 0) = get_or_default times k d (pos 0) lt in
    let place : get_or times (k + left) (pos 0) ≡ get_or times (length times - 1) (pos 0) = ap (λ n. get_or times n (pos 0)) (omega (arith, lt)) in
    let up = times_up rollup times parts k left fit (omega (arith, lt)) in
    omega (arith, ints, last, here, place, up)
