-- Groups of different keys have one order, in whatever order they come: that of the groups which are given.
use Rattle.std.proofs.Common.{◌≡◌, ◌∙◌, sym, refl, ap, ◌&&◌, not, Bool, true, false, true≢false, cond, List, [], ◌∷◌, map, filter}
use Rattle.std.specs.List.{fold, AllByRecursion}
use Rattle.std.specs.List.Sorted.{IsSortedBy, IsStableBy, ties}
use Rattle.std.specs.declared.cmp.Ordering.{Ordering}
use Rattle.std.specs.declared.cmp.Ordering.TheVariants.{Less, Equal, Greater}
use Rattle.std.specs.Cmp.{IsTotalOrder, on_total, then_total}
use Rattle.std.specs.Ordering.{is_lt, is_eq, eq_by_cmp, match_ordering, ordering_then, ordering_reverse}
use Rattle.dr_base.specs.declared.key.Key.{Key}
use Rattle.dr_base.specs.declared.row.Row.{Row}
use Rattle.dr_base.specs.Order.{key_cmp}
use Rattle.dr_agg.specs.Rollup.{rows_at, IsInOrder}
use Rattle.dr_agg.proofs.KeyOrder.{key_cmp_total}
use Rattle.dr_order.specs.declared.order_column.OrderColumn.{OrderColumn}
use Rattle.dr_ask.specs.declared.aggregation.Aggregation.{Aggregation}
use Rattle.dr_ask.specs.declared.dimension.Dimension.{Dimension}
use Rattle.dr_answers.specs.declared.result_row.ResultRow.{ResultRow}
use Rattle.dr_answers.specs.Given.{result_cmp, in_order}
use Rattle.dr_answers.specs.InOrder.{put_by, in_order_by}
use Rattle.dr_answers.proofs.StableOrder.{in_order-sorted}
use Rattle.dr_finish.specs.RowOrder.{row_cmp, spread_row}
use Rattle.dr_finish.proofs.ResultOrder.{result_total}

then_equal : (a b : Ordering) → ordering_then a b ≡ Equal → b ≡ Equal
then_equal Less b e = cc
then_equal Equal b e = e
then_equal Greater b e = cc

either_way : (b : Bool) (l : List Row) → cond b l l ≡ l
either_way true l = refl
either_way false l = refl

module _ (columns : List OrderColumn) (ds : List Dimension) (aggregations : List Aggregation) where
  abbrev cmp : Row → Row → Ordering
  cmp = row_cmp columns ds aggregations

  abbrev before : Row → Row → Bool
  before a b = is_lt (cmp a b)

  -- a row as a group
  abbrev group : Row → ResultRow
  group r = spread_row ds aggregations r

  pub row_total : IsTotalOrder (row_cmp columns ds aggregations)
  row_total = then_total (on_total (λ (r : Row). spread_row ds aggregations r) (result_total columns)) (on_total (λ (r : Row). r.key) key_cmp_total)

  -- ---- rows that were sorted, from some that are the same of each key

  -- a row of another key comes before it or behind it
  apart : (q r : Row) → eq_by_cmp key_cmp q.key r.key ≡ false → ties before q r ≡ false
  apart q r e =
      elim (cmp q r) as (λ o. cmp q r ≡ o → (not (is_lt o) && not (is_lt (cmp r q))) ≡ false) [
        | Less ↦ λ t. refl
        | Equal ↦ λ t. absurd (true≢false (ap is_eq (sym (then_equal (result_cmp columns (group q) (group r)) (key_cmp q.key r.key) t)) ∙ e))
        | Greater ↦ λ t. ap (λ o. not (is_lt o)) (row_total.antisymm r q ∙ ap ordering_reverse t)
      ]
      refl

  module _ (test : Row → Bool) (q : Row) where
    -- of some rows those that are kept and compare as equal with one
    abbrev tied : List Row → List Row
    tied rows = filter (ties before q) (filter test rows)

    tied-cons : (r : Row) (rows : List Row) → tied (r ∷ rows) ≡ cond (test r) (cond (ties before q r) (r ∷ tied rows) (tied rows)) (tied rows)
    tied-cons r rows =
        elim (test r) as (λ b. filter (ties before q) (cond b (r ∷ filter test rows) (filter test rows)) ≡ cond b (cond (ties before q r) (r ∷ tied rows) (tied rows)) (tied rows))
        [ true ↦ refl | false ↦ refl ]

    tied-apart : (r : Row) (rows : List Row) → ties before q r ≡ false → tied (r ∷ rows) ≡ tied rows
    tied-apart r rows e =
        tied-cons r rows ∙ ap (λ b. cond (test r) (cond b (r ∷ tied rows) (tied rows)) (tied rows)) e ∙ either_way (test r) (tied rows)

    -- they are of its key
    tied-at : (rows : List Row) → tied rows ≡ tied (rows_at q.key rows)
    tied-at [] = refl
    tied-at (r ∷ rows) =
        let k : Key = q.key in
        elim (eq_by_cmp key_cmp k r.key) as (λ b. eq_by_cmp key_cmp k r.key ≡ b → tied (r ∷ rows) ≡ tied (cond b (r ∷ rows_at k rows) (rows_at k rows))) [
          | true ↦ λ t. tied-cons r rows ∙ ap (λ l. cond (test r) (cond (ties before q r) (r ∷ l) l) l) (tied-at rows) ∙ sym (tied-cons r (rows_at k rows))
          | false ↦ λ t. tied-apart r rows (apart q r t) ∙ tied-at rows
        ]
        refl

    tied-same : (rows others : List Row) → ((k : Key) → rows_at k rows ≡ rows_at k others) → tied rows ≡ tied others
    tied-same rows others same = tied-at rows ∙ ap tied (same q.key) ∙ sym (tied-at others)

  -- ---- rows in the order of their keys

  -- one that isn't before another is put in the same place whether keys are compared or not
  same_place : (o k : Ordering) (a b c : List Row) → is_lt k ≡ false → match_ordering (ordering_then o k) a b b ≡ match_ordering o a b b
  same_place Less k a b c h = refl
  same_place Equal Less a b c h = absurd (true≢false h)
  same_place Equal Equal a b c h = refl
  same_place Equal Greater a b c h = refl
  same_place Greater k a b c h = refl

  abbrev group_cmp : Row → Row → Ordering
  group_cmp a b = result_cmp columns (group a) (group b)

  -- no row of some has a greater key
  abbrev AreBelow : Row → List Row → Type 0
  AreBelow r rows = AllByRecursion (λ x. is_lt (key_cmp r.key x.key) ≡ false) rows

  put-below : (rows : List Row) (r : Row) → AreBelow r rows → put_by cmp rows r ≡ put_by group_cmp rows r
  put-below [] r below = refl
  put-below (x ∷ xs) r below =
      same_place (group_cmp r x) (key_cmp r.key x.key) (r ∷ x ∷ xs) (x ∷ put_by cmp xs r) [] below.0
      ∙ ap (λ l. match_ordering (group_cmp r x) (r ∷ x ∷ xs) (x ∷ l) (x ∷ l)) (put-below xs r below.1)

  all-put : (P : Row → Type 0) (rows : List Row) (r : Row) → AllByRecursion P rows → P r → AllByRecursion P (put_by group_cmp rows r)
  all-put P [] r all one = (one, tt)
  all-put P (x ∷ xs) r all one =
      let more = all-put P xs r all.1 one in
      elim (group_cmp r x) as (λ o. AllByRecursion P (match_ordering o (r ∷ x ∷ xs) (x ∷ put_by group_cmp xs r) (x ∷ put_by group_cmp xs r)))
      [ Less ↦ (one, all) | Equal ↦ (all.0, more) | Greater ↦ (all.0, more) ]

  still-below : (done more : List Row) (r : Row) → AllByRecursion (λ x. AreBelow x done) more → AllByRecursion (λ x. is_lt (key_cmp x.key r.key) ≡ false) more → AllByRecursion (λ x. AreBelow x (put_by group_cmp done r)) more
  still-below done [] r all each = tt
  still-below done (x ∷ more) r all each = (all-put (λ y. is_lt (key_cmp x.key y.key) ≡ false) done r all.0 each.0, still-below done more r all.1 each.1)

  fold-below : (done rows : List Row) → AllByRecursion (λ x. AreBelow x done) rows → IsInOrder rows → fold (put_by cmp) done rows ≡ fold (put_by group_cmp) done rows
  fold-below done [] all up = refl
  fold-below done (r ∷ rows) all up =
      ap (λ l. fold (put_by cmp) l rows) (put-below done r all.0) ∙ fold-below (put_by group_cmp done r) rows (still-below done rows r all.1 up.0) up.1

  below-none : (rows : List Row) → AllByRecursion (λ x. AreBelow x []) rows
  below-none [] = tt
  below-none (r ∷ rows) = (tt, below-none rows)

  -- ---- the groups of rows

  group-put : (rows : List Row) (r : Row) → map group (put_by group_cmp rows r) ≡ put_by (result_cmp columns) (map group rows) (group r)
  group-put [] r = refl
  group-put (x ∷ xs) r =
      let more = group-put xs r in
      elim (group_cmp r x) as (λ o. map group (match_ordering o (r ∷ x ∷ xs) (x ∷ put_by group_cmp xs r) (x ∷ put_by group_cmp xs r))
      ≡ match_ordering o (group r ∷ group x ∷ map group xs) (group x ∷ put_by (result_cmp columns) (map group xs) (group r)) (group x ∷ put_by (result_cmp columns) (map group xs) (group r)))
      [ Less ↦ refl | Equal ↦ ap (λ l. group x ∷ l) more | Greater ↦ ap (λ l. group x ∷ l) more ]

  group-fold : (done rows : List Row) → map group (fold (put_by group_cmp) done rows) ≡ fold (put_by (result_cmp columns)) (map group done) (map group rows)
  group-fold done [] = refl
  group-fold done (r ∷ rows) = group-fold (put_by group_cmp done r) rows ∙ ap (λ l. fold (put_by (result_cmp columns)) l (map group rows)) (group-put done r)

  -- ---- those that are kept

  module _ (kept : ResultRow → Bool) where
    all-kept : (P : Row → Type 0) (rows : List Row) → AllByRecursion P rows → AllByRecursion P (filter (λ r. kept (group r)) rows)
    all-kept P [] all = tt
    all-kept P (r ∷ rows) all =
        let more = all-kept P rows all.1 in
        elim (kept (group r)) as (λ b. AllByRecursion P (cond b (r ∷ filter (λ r. kept (group r)) rows) (filter (λ r. kept (group r)) rows))) [ true ↦ (all.0, more) | false ↦ more ]

    kept-in_order : (rows : List Row) → IsInOrder rows → IsInOrder (filter (λ r. kept (group r)) rows)
    kept-in_order [] up = tt
    kept-in_order (r ∷ rows) up =
        let more = kept-in_order rows up.1 in
        let behind = all-kept (λ x. is_lt (key_cmp x.key r.key) ≡ false) rows up.0 in
        elim (kept (group r)) as (λ b. IsInOrder (cond b (r ∷ filter (λ r. kept (group r)) rows) (filter (λ r. kept (group r)) rows))) [ true ↦ (behind, more) | false ↦ more ]

    kept-groups : (rows : List Row) → map group (filter (λ r. kept (group r)) rows) ≡ filter kept (map group rows)
    kept-groups [] = refl
    kept-groups (r ∷ rows) =
        elim (kept (group r)) as (λ b. map group (cond b (r ∷ filter (λ r. kept (group r)) rows) (filter (λ r. kept (group r)) rows)) ≡ cond b (group r ∷ filter kept (map group rows)) (filter kept (map group rows)))
        [ true ↦ ap (λ l. group r ∷ l) (kept-groups rows) | false ↦ kept-groups rows ]

    -- the groups of rows that were sorted are in the order of the groups of others which are the same of each key
    pub any-order : (rows others sorted : List Row) → ((k : Key) → rows_at k rows ≡ rows_at k others) → IsInOrder others
        → IsSortedBy before sorted → IsStableBy before (filter (λ r. kept (group r)) rows) sorted → map group sorted ≡ in_order columns (filter kept (map group others))
    any-order rows others sorted same order up stable =
        let some : List Row = filter (λ r. kept (group r)) others in
        let is : sorted ≡ in_order_by cmp some = in_order-sorted cmp row_total some sorted up (λ q. stable q ∙ tied-same (λ r. kept (group r)) q rows others same) in
        ap (map group) (is ∙ fold-below [] some (below-none some) (kept-in_order others order)) ∙ group-fold [] some ∙ ap (in_order columns) (kept-groups others)
