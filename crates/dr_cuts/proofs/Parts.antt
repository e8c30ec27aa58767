-- The values of a function over a list, and the parts of the list that they make.
use Rattle.std.proofs.Common.{◌≡◌, ◌∙◌, sym, refl, ap, subst, ℤ, Bool, true, false, List, [], ◌∷◌, ◌++◌, filter, map, cond, ◌||◌}
use Rattle.std.specs.List.{list_any, AllByRecursion}
use Rattle.std.specs.List.Sorted.{IsStrictlySortedBy}
use Rattle.std.specs.declared.cmp.Ordering.{Ordering}
use Rattle.std.specs.declared.cmp.Ordering.TheVariants.{Less, Equal, Greater}
use Rattle.std.specs.Ordering.{match_ordering, int_eq, int_cmp, is_eq, ordering_reverse}
use Rattle.std.specs.Cmp.{int_cmp_total}
use Rattle.std.specs.FinMap.{int_cmp-IsAntisymmetric}
use Rattle.dr_cuts.specs.Chunks.{with_value, values_onto}
use Rattle.dr_cuts.proofs.Totals.{Combines, total, total-units, total-same, exchange}
use Rattle.dr_base.proofs.Truths.{or_true, or_twice, or_moves_out}

pub is_eq-true : (o : Ordering) → is_eq o ≡ true → o ≡ Equal
is_eq-true Less h = cc
is_eq-true Equal h = refl
is_eq-true Greater h = cc

pub greater-less : (a b : ℤ) → int_cmp a b ≡ Greater → int_cmp b a ≡ Less
greater-less a b h = int_cmp_total.antisymm b a ∙ rw h refl

-- what holds of each value, and of one more
pub All-with_value : (P : ℤ → Type 0) (k : ℤ) (ks : List ℤ) → P k → AllByRecursion P ks → AllByRecursion P (with_value k ks)
unfolding with_value
All-with_value P k [] p h = (p, tt)
All-with_value P k (j ∷ js) p h =
    elim (int_cmp k j) as (λ o. AllByRecursion P (match_ordering o (k ∷ j ∷ js) (j ∷ js) (j ∷ with_value k js)))
    [ Less ↦ (p, h) | Equal ↦ h | Greater ↦ (h.0, All-with_value P k js p h.1) ]

pub All-below : (k j : ℤ) (js : List ℤ) → int_cmp k j ≡ Less → AllByRecursion (λ x. int_cmp j x ≡ Less) js → AllByRecursion (λ x. int_cmp k x ≡ Less) js
All-below k j [] less h = tt
All-below k j (x ∷ xs) less h = (int_cmp_total.trans k j x less h.0, All-below k j xs less h.1)

-- a rising list with one more value rises
rising-with_value : (k : ℤ) (ks : List ℤ) → IsStrictlySortedBy int_cmp ks → IsStrictlySortedBy int_cmp (with_value k ks)
unfolding with_value IsStrictlySortedBy
rising-with_value k [] h = (tt, tt)
rising-with_value k (j ∷ js) h =
    elim (int_cmp k j) as (λ o. int_cmp k j ≡ o → IsStrictlySortedBy int_cmp (match_ordering o (k ∷ j ∷ js) (j ∷ js) (j ∷ with_value k js))) [
      | Less ↦ λ less. ((less, All-below k j js less h.0), h)
      | Equal ↦ λ e. h
      | Greater ↦ λ more. (All-with_value (λ x. int_cmp j x ≡ Less) k js (greater-less k j more) h.0, rising-with_value k js h.1)
    ] refl

-- a value is among the values
abbrev pub has : ℤ → List ℤ → Bool
has k ks = list_any (int_eq k) ks

or-right : (a b : Bool) → b ≡ true → (a || b) ≡ true
or-right a b h = ap (λ x. a || x) h ∙ or_true a

pub int_eq-itself : (k : ℤ) → int_eq k k ≡ true
int_eq-itself k = ap is_eq (elim (int_cmp k k) as (λ o. int_cmp k k ≡ o → o ≡ Equal) [
  | Less ↦ λ h. let g : Less ≡ Greater = sym h ∙ int_cmp_total.antisymm k k ∙ ap ordering_reverse h in cc
  | Equal ↦ λ h. refl
  | Greater ↦ λ h. let g : Greater ≡ Less = sym h ∙ int_cmp_total.antisymm k k ∙ ap ordering_reverse h in cc
] refl)

has-with_value : (k : ℤ) (ks : List ℤ) → has k (with_value k ks) ≡ true
unfolding with_value
has-with_value k [] = ap (λ b. b || false) (int_eq-itself k)
has-with_value k (j ∷ js) =
    elim (int_cmp k j) as (λ o. int_cmp k j ≡ o → has k (match_ordering o (k ∷ j ∷ js) (j ∷ js) (j ∷ with_value k js)) ≡ true) [
      | Less ↦ λ h. ap (λ b. b || has k (j ∷ js)) (int_eq-itself k)
      | Equal ↦ λ h. ap (λ o. is_eq o || has k js) h
      | Greater ↦ λ h. or-right (int_eq k j) (has k (with_value k js)) (has-with_value k js)
    ] refl

has-kept : (q k : ℤ) (ks : List ℤ) → has q ks ≡ true → has q (with_value k ks) ≡ true
unfolding with_value
has-kept q k [] h = cc
has-kept q k (j ∷ js) h =
    elim (int_cmp k j) as (λ o. has q (match_ordering o (k ∷ j ∷ js) (j ∷ js) (j ∷ with_value k js)) ≡ true) [
      | Less ↦ or-right (int_eq q k) (has q (j ∷ js)) h
      | Equal ↦ h
      | Greater ↦ elim (int_eq q j) as (λ b. (b || has q js) ≡ true → (b || has q (with_value k js)) ≡ true) [ true ↦ λ e. refl | false ↦ λ e. has-kept q k js e ] h
    ]

-- each item's value is among the values
abbrev pub Covers : {A : Type 0} → (A → ℤ) → List ℤ → List A → Type 0
Covers f ks xs = AllByRecursion (λ x. has (f x) ks ≡ true) xs

has-values_onto : {A : Type 0} (f : A → ℤ) (q : ℤ) (ks : List ℤ) (xs : List A) → has q ks ≡ true → has q (values_onto f ks xs) ≡ true
unfolding values_onto
has-values_onto f q ks [] h = h
has-values_onto f q ks (x ∷ xs) h = has-values_onto f q (with_value (f x) ks) xs (has-kept q (f x) ks h)

pub Covers-values_onto : {A : Type 0} (f : A → ℤ) (ks : List ℤ) (xs : List A) → Covers f (values_onto f ks xs) xs
unfolding values_onto
Covers-values_onto f ks [] = tt
Covers-values_onto f ks (x ∷ xs) =
    (has-values_onto f (f x) (with_value (f x) ks) xs (has-with_value (f x) ks), Covers-values_onto f (with_value (f x) ks) xs)

rising-onto : {A : Type 0} (f : A → ℤ) (ks : List ℤ) (xs : List A) → IsStrictlySortedBy int_cmp ks → IsStrictlySortedBy int_cmp (values_onto f ks xs)
unfolding values_onto
rising-onto f ks [] h = h
rising-onto f ks (x ∷ xs) h = rising-onto f (with_value (f x) ks) xs (rising-with_value (f x) ks h)

pub rising-values : {A : Type 0} (f : A → ℤ) (xs : List A) → IsStrictlySortedBy int_cmp (values_onto f [] xs)
unfolding IsStrictlySortedBy
rising-values f xs = rising-onto f [] xs tt

-- ---- a value is among those of some items exactly where it is that of one of them

or-false : (a : Bool) → a ≡ (a || false)
or-false true = refl
or-false false = refl

or-swap : (a b c : Bool) → (a || (b || c)) ≡ (b || (a || c))
or-swap true true c = refl
or-swap true false c = refl
or-swap false b c = refl

any-with_value : (p : ℤ → Bool) (k : ℤ) (ks : List ℤ) → list_any p (with_value k ks) ≡ (p k || list_any p ks)
unfolding with_value
any-with_value p k [] = refl
any-with_value p k (j ∷ js) =
    elim (int_cmp k j) as (λ o. int_cmp k j ≡ o → list_any p (match_ordering o (k ∷ j ∷ js) (j ∷ js) (j ∷ with_value k js)) ≡ (p k || (p j || list_any p js))) [
      | Less ↦ λ h. refl
      | Equal ↦ λ h.
          let same : k ≡ j = int_cmp-IsAntisymmetric k j h in
          or_twice (p j) (list_any p js) ∙ ap (λ x. p x || (p j || list_any p js)) (sym same)
      | Greater ↦ λ h. ap (λ b. p j || b) (any-with_value p k js) ∙ or-swap (p j) (p k) (list_any p js)
    ] refl

any-values_onto : {A : Type 0} (p : ℤ → Bool) (f : A → ℤ) (ks : List ℤ) (xs : List A) → list_any p (values_onto f ks xs) ≡ (list_any p ks || list_any p (map f xs))
unfolding values_onto
any-values_onto p f ks [] = or-false (list_any p ks)
any-values_onto p f ks (x ∷ xs) =
    any-values_onto p f (with_value (f x) ks) xs
    ∙ ap (λ b. b || list_any p (map f xs)) (any-with_value p (f x) ks)
    ∙ or_moves_out (p (f x)) (list_any p ks) (list_any p (map f xs))

pub any-values : {A : Type 0} (p : ℤ → Bool) (f : A → ℤ) (xs : List A) → list_any p (values_onto f [] xs) ≡ list_any p (map f xs)
any-values p f xs = any-values_onto p f [] xs

-- the values with one more item
pub values_onto-push : {A : Type 0} (f : A → ℤ) (ks : List ℤ) (xs : List A) (x : A) → values_onto f ks (xs ++ x ∷ []) ≡ with_value (f x) (values_onto f ks xs)
unfolding values_onto
values_onto-push f ks [] x = refl
values_onto-push f ks (y ∷ ys) x = values_onto-push f (with_value (f y) ks) ys x

-- a value that no item has makes no part
pub part-none : {A : Type 0} (f : A → ℤ) (q : ℤ) (ks : List ℤ) (xs : List A) → Covers f ks xs → has q ks ≡ false → filter (λ x. int_eq (f x) q) xs ≡ []
part-none f q ks [] covers h = refl
part-none f q ks (x ∷ xs) covers h =
    elim (int_eq (f x) q) as (λ b. int_eq (f x) q ≡ b → cond b (x ∷ filter (λ x. int_eq (f x) q) xs) (filter (λ x. int_eq (f x) q) xs) ≡ []) [
      | true ↦ λ e.
          let same : f x ≡ q = int_cmp-IsAntisymmetric (f x) q (is_eq-true (int_cmp (f x) q) e) in
          let there : has q ks ≡ true = subst (λ (z : ℤ). has z ks ≡ true) same covers.0 in cc
      | false ↦ λ e. part-none f q ks xs covers.1 h
    ] refl

-- below each of these values
none : {M : Type 0} (op : M → M → M) (e : M) (q : ℤ) (v : M) (w : ℤ → M) (ks : List ℤ) → AllByRecursion (λ x. int_cmp q x ≡ Less) ks
    → total op e (λ k. cond (int_eq q k) (op v (w k)) (w k)) ks ≡ total op e w ks
none op e q v w [] h = refl
none op e q v w (k ∷ ks) h = λ i. op (cond (is_eq (h.0 i)) (op v (w k)) (w k)) (none op e q v w ks h.1 i)

-- one part has one more share, where its value is among rising values
total-one : {M : Type 0} {op : M → M → M} {e : M} (k : Combines op e) (q : ℤ) (v : M) (w : ℤ → M) (ks : List ℤ) → IsStrictlySortedBy int_cmp ks → has q ks ≡ true
    → total op e (λ x. cond (int_eq q x) (op v (w x)) (w x)) ks ≡ op v (total op e w ks)
unfolding IsStrictlySortedBy
total-one k q v w [] rising h = cc
total-one {op = op} {e = e} k q v w (j ∷ js) rising h =
    elim (int_eq q j) as (λ b. int_eq q j ≡ b → (b || has q js) ≡ true → op (cond b (op v (w j)) (w j)) (total op e (λ x. cond (int_eq q x) (op v (w x)) (w x)) js) ≡ op v (op (w j) (total op e w js))) [
      | true ↦ λ same any.
          let is : q ≡ j = int_cmp-IsAntisymmetric q j (is_eq-true (int_cmp q j) same) in
          ap (op (op v (w j))) (none op e q v w js (subst (λ (z : ℤ). AllByRecursion (λ x. int_cmp z x ≡ Less) js) (sym is) rising.0)) ∙ k.assoc v (w j) (total op e w js)
      | false ↦ λ same any. ap (op (w j)) (total-one k q v w js rising.1 any) ∙ exchange k (w j) v (total op e w js)
    ] refl h

share-part : {A M : Type 0} (op : M → M → M) (e : M) (f : A → ℤ) (h : A → M) (x : A) (xs : List A) (k : ℤ)
    → total op e h (filter (λ y. int_eq (f y) k) (x ∷ xs)) ≡ cond (int_eq (f x) k) (op (h x) (total op e h (filter (λ y. int_eq (f y) k) xs))) (total op e h (filter (λ y. int_eq (f y) k) xs))
share-part op e f h x xs k =
    elim (int_eq (f x) k) as (λ b. total op e h (cond b (x ∷ filter (λ y. int_eq (f y) k) xs) (filter (λ y. int_eq (f y) k) xs)) ≡ cond b (op (h x) (total op e h (filter (λ y. int_eq (f y) k) xs))) (total op e h (filter (λ y. int_eq (f y) k) xs)))
    [ true ↦ refl | false ↦ refl ]

-- the total over the items of each value, over all values, is that over the items
pub total-parts : {A M : Type 0} {op : M → M → M} {e : M} (k : Combines op e) (f : A → ℤ) (h : A → M) (ks : List ℤ) (xs : List A) → IsStrictlySortedBy int_cmp ks → Covers f ks xs
    → total op e (λ j. total op e h (filter (λ y. int_eq (f y) j) xs)) ks ≡ total op e h xs
total-parts {e = e} k f h ks [] rising covers = total-units k (λ j. e) (λ j. refl) ks
total-parts {op = op} {e = e} k f h ks (x ∷ xs) rising covers =
    total-same op e _ _ (share-part op e f h x xs) ks
    ∙ total-one k (f x) (h x) (λ j. total op e h (filter (λ y. int_eq (f y) j) xs)) ks rising covers.0
    ∙ ap (op (h x)) (total-parts k f h ks xs rising covers.1)
