-- Rows of the same keys in two orders.
use Rattle.std.proofs.Common.{◌≡◌, ◌∙◌, sym, ap, refl, subst, ℕ, zero, suc, ◌+◌, ◌≤◌, Bool, true, false, cond, List, [], ◌∷◌, Some, length, drop, slice_get, ◌⊎◌, inl, inr, true≢false, is_some, unwrap_or, arith}
use Rattle.std.specs.List.{AllByRecursion}
use Rattle.std.specs.Ordering.{is_eq, eq_by_cmp}
use Rattle.std.specs.declared.cmp.Ordering.TheVariants.{Less, Equal, Greater}
use Rattle.dr_base.specs.declared.key.Key.{Key}
use Rattle.dr_base.specs.declared.row.Row.{Row}
use Rattle.dr_base.specs.Order.{key_cmp}
use Rattle.dr_agg.specs.Rollup.{rows_at, IsInOrder}
use Rattle.dr_agg.proofs.KeyOrder.{same_key}
use Rattle.dr_agg.proofs.RollupLaws.{same_rows, IsRollup-rollup}
use Rattle.dr_rollup.specs.OpenRows.{in_order}
use Rattle.dr_fragment.specs.Alike.{AreAlike}

-- the rows from a place on, and the one that stands there
dropped : (rows : List Row) (i : ℕ) (r : Row) → slice_get rows i ≡ Some r → drop i rows ≡ r ∷ drop (suc i) rows
dropped [] i r at = absurd (true≢false (sym (ap is_some at)))
dropped (x ∷ rows) zero r at = ap (λ o. unwrap_or o x ∷ rows) at
dropped (x ∷ rows) (suc i) r at = dropped rows i r at

dropped_here : (rows : List Row) (i : ℕ) (r : Row) → slice_get rows i ≡ Some r → drop i rows ≡ r ∷ drop (i + 1) rows
dropped_here rows i r at =
    let one : suc i ≡ i + 1 = omega arith in
    dropped rows i r at ∙ ap (λ n. r ∷ drop n rows) one

pub not_nil : (x : Row) (xs : List Row) → x ∷ xs ≡ [] → ⊥
not_nil x xs e = true≢false (ap is_some_row e)
  where
    is_some_row : List Row → Bool
    is_some_row [] = false
    is_some_row (y ∷ ys) = true

first_of : Row → List Row → Row
first_of d [] = d
first_of d (x ∷ xs) = x

rest_of : List Row → List Row
rest_of [] = []
rest_of (x ∷ xs) = xs

pub same_first : (x y : Row) (xs ys : List Row) → x ∷ xs ≡ y ∷ ys → x ≡ y
unfolding first_of
same_first x y xs ys e = ap (first_of x) e

pub same_rest : (x y : Row) (xs ys : List Row) → x ∷ xs ≡ y ∷ ys → xs ≡ ys
unfolding rest_of
same_rest x y xs ys e = ap rest_of e

pub passed_by : (q : Key) (rows : List Row) (i : ℕ) (r : Row) → slice_get rows i ≡ Some r → eq_by_cmp key_cmp q r.key ≡ false → rows_at q (drop i rows) ≡ rows_at q (drop (i + 1) rows)
passed_by q rows i r at h = ap (rows_at q) (dropped_here rows i r at) ∙ ap (λ b. cond b (r ∷ rows_at q (drop (i + 1) rows)) (rows_at q (drop (i + 1) rows))) h

pub taken_in : (q : Key) (rows : List Row) (i : ℕ) (r : Row) → slice_get rows i ≡ Some r → eq_by_cmp key_cmp q r.key ≡ true → rows_at q (drop i rows) ≡ r ∷ rows_at q (drop (i + 1) rows)
taken_in q rows i r at h = ap (rows_at q) (dropped_here rows i r at) ∙ ap (λ b. cond b (r ∷ rows_at q (drop (i + 1) rows)) (rows_at q (drop (i + 1) rows))) h

pub none_left : (q : Key) (rows : List Row) (i : ℕ) → length rows ≤ i → rows_at q (drop i rows) ≡ []
none_left q [] zero h = refl
none_left q [] (suc i) h = refl
none_left q (x ∷ rows) zero h = absurd (omega arith)
none_left q (x ∷ rows) (suc i) h = none_left q rows i (omega arith)

-- ---- every key

-- there is no row of a key, or what holds of the key of each row holds of it
found_or_none : (q : Key) (P : Key → Type 0) (rows : List Row) → AllByRecursion (λ r. P r.key) rows → (rows_at q rows ≡ []) ⊎ P q
found_or_none q P [] all = inl refl
found_or_none q P (r ∷ rows) all =
    elim (key_cmp q r.key) as (λ o. key_cmp q r.key ≡ o → (cond (is_eq o) (r ∷ rows_at q rows) (rows_at q rows) ≡ []) ⊎ P q) [
      | Less ↦ λ t. found_or_none q P rows all.1
      | Equal ↦ λ t. inr (subst P (sym (same_key q r.key t)) all.0)
      | Greater ↦ λ t. found_or_none q P rows all.1
    ] refl

pub alike_everywhere : (rows others : List Row) → AllByRecursion (λ r. rows_at r.key rows ≡ rows_at r.key others) rows → AllByRecursion (λ r. rows_at r.key rows ≡ rows_at r.key others) others → AreAlike rows others
alike_everywhere rows others here there q = go (found_or_none q P rows here) (found_or_none q P others there)
  where
    P : Key → Type 0
    P k = rows_at k rows ≡ rows_at k others

    go : (rows_at q rows ≡ []) ⊎ P q → (rows_at q others ≡ []) ⊎ P q → rows_at q rows ≡ rows_at q others
    go (inr p) o = p
    go (inl n) (inr p) = p
    go (inl n) (inl m) = n ∙ sym m

pub each_alike : (keys rows others : List Row) → AreAlike rows others → AllByRecursion (λ r. rows_at r.key rows ≡ rows_at r.key others) keys
each_alike [] rows others alike = tt
each_alike (k ∷ keys) rows others alike = (alike k.key, each_alike keys rows others alike)

-- ---- in the order of their keys

pub in_order_alike : (rows : List Row) → AreAlike rows (in_order rows)
in_order_alike rows q = sym ((IsRollup-rollup false [] rows).each q)

pub in_order_is : (rows : List Row) → IsInOrder (in_order rows)
in_order_is rows = (IsRollup-rollup false [] rows).ordered

-- two lists in order are the same where the lists that they came from are alike
pub same_where_alike : (rows others ordered other_ordered : List Row) → AreAlike rows ordered → AreAlike others other_ordered → IsInOrder ordered → IsInOrder other_ordered → AreAlike rows others → ordered ≡ other_ordered
same_where_alike rows others ordered other_ordered a b up other_up alike = same_rows ordered other_ordered up other_up (λ q. sym (a q) ∙ alike q ∙ b q)

pub alike_where_same : (rows others ordered other_ordered : List Row) → AreAlike rows ordered → AreAlike others other_ordered → ordered ≡ other_ordered → AreAlike rows others
alike_where_same rows others ordered other_ordered a b same q = a q ∙ ap (rows_at q) same ∙ sym (b q)
