-- The groups of a query are those that its partial result gives.
use Rattle.std.proofs.Common.{◌≡◌, ◌∙◌, sym, refl, ap, ℤ, Bool, true, false, cond, List, [], ◌∷◌, ◌++◌, Option, None, Some, unwrap_or, map, filter, arith}
use Rattle.std.specs.Prelude.{FitsSigned}
use Rattle.std.specs.Int.{w64}
use Rattle.std.specs.Prelude.{if◌then◌else◌}
use Rattle.std.proofs.lemmas.List.{map-append, append-nil}
use Rattle.std.proofs.lemmas.List.Sums.{fold-append}
use Rattle.std.specs.List.{AllByRecursion, fold}
use Rattle.std.specs.declared.cmp.Ordering.TheVariants.{Less, Equal, Greater}
use Rattle.std.specs.Ordering.{is_eq, eq_by_cmp, match_ordering}
use Rattle.dr_base.specs.declared.key.Key.{Key}
use Rattle.dr_base.specs.declared.row.Row.{Row}
use Rattle.dr_base.specs.Order.{key_cmp}
use Rattle.dr_agg.specs.declared.kind.Kind.{Kind}
use Rattle.dr_agg.specs.declared.kind.Kind.TheVariants.{Count, LongSum, LongMin, LongMax}
use Rattle.dr_agg.specs.Combination.{combine_of, unit_of, fold_of, combine_columns}
use Rattle.dr_agg.specs.Rollup.{rows_at, combined, together, IsRising, joined, add_row, rollup_onto}
use Rattle.dr_agg.proofs.ColumnLaws.{combine_of-assoc, combine_of-unit}
use Rattle.dr_agg.proofs.KeyOrder.{itself, less_back, above_differs}
use Rattle.dr_agg.proofs.RollupLaws.{IsRollup-rollup, IsRising-rollup, AllByRecursion-implied}
use Rattle.dr_rollup.proofs.Keys.{parts-same_keys}
use Rattle.dr_rollup.proofs.Rows.{same_keys-comm}
use Rattle.dr_ask.specs.declared.aggregation.Aggregation.{Aggregation}
use Rattle.dr_ask.specs.Asked.{Asked, AskedShape, timeseries, group_by, scan, dimensions_by}
use Rattle.dr_answers.specs.Fold.{reading_in, folded, folds}
use Rattle.dr_answers.specs.Groups.{group_of, is_same_group, with_group, groups_of, filled_in, filled, keys_by, group, groups}
use Rattle.dr_answers.specs.Selection.{selected}
use Rattle.dr_answers.specs.Span.{span}
use Rattle.dr_partial.specs.Partial.{kinds_in, alone, partial, result_row, values_at, filled_row, groups_by, groups_from}
use Rattle.dr_agg.proofs.FoldLaws.{fold_first}

-- ---- a fold of folds over single rows

unit_fits : (k : Kind) → FitsSigned w64 (unit_of k)
unit_fits Count = search arith
unit_fits LongSum = search arith
unit_fits LongMin = search arith
unit_fits LongMax = search arith

-- the unit changes nothing behind a fold
pub unit_behind : (k : Kind) (values : List ℤ) (v : ℤ) → combine_of k (fold_of k values) (combine_of k (unit_of k) v) ≡ combine_of k (fold_of k values) v
unit_behind k values v =
    sym (combine_of-assoc k (fold_of k values) (unit_of k) v)
    ∙ ap (λ c. combine_of k c v) (sym (fold_first k (unit_of k) (unit_of k) values) ∙ ap (λ c. fold (combine_of k) c values) (combine_of-unit k (unit_of k) (unit_fits k)))

folded_push : (a : Aggregation) (rows : List Row) (r : Row) → combine_of a.kind (folded a rows) (folded a (r ∷ [])) ≡ folded a (rows ++ r ∷ [])
folded_push a rows r =
    let read : Row → ℤ = reading_in a.kind a.column in
    unit_behind a.kind (map read rows) (read r)
    ∙ sym (fold-append (combine_of a.kind) (unit_of a.kind) (map read rows) (read r ∷ []))
    ∙ ap (fold_of a.kind) (sym (map-append read rows (r ∷ [])))

pub folds_push : (aggregations : List Aggregation) (rows : List Row) (r : Row) → combine_columns (kinds_in aggregations) (folds aggregations rows) (folds aggregations (r ∷ [])) ≡ folds aggregations (rows ++ r ∷ [])
folds_push [] rows r = refl
folds_push (a ∷ more) rows r = λ i. folded_push a rows r i ∷ folds_push more rows r i

module _ (q : Asked) where
  abbrev kinds : List Kind
  kinds = kinds_in q.aggregations

  abbrev key_of : Row → Key
  key_of r = group_of q (dimensions_by q.shape) r.key

  combined_alone : (rows more : List Row) → combined kinds (folds q.aggregations rows) (map (alone q) more) ≡ folds q.aggregations (rows ++ more)
  combined_alone rows [] = ap (folds q.aggregations) (sym (append-nil rows))
  combined_alone rows (r ∷ more) =
      ap (λ m. combined kinds m (map (alone q) more)) (folds_push q.aggregations rows r) ∙ combined_alone (rows ++ r ∷ []) more
      ∙ ap (folds q.aggregations) (regrouped rows r more)
    where
      regrouped : (xs : List Row) (x : Row) (ys : List Row) → (xs ++ x ∷ []) ++ ys ≡ xs ++ x ∷ ys
      regrouped [] x ys = refl
      regrouped (y ∷ xs) x ys = ap (λ l. y ∷ l) (regrouped xs x ys)

  -- ---- the group of a key

  -- the rows of a group
  abbrev within : Key → List Row → List Row
  within k rows = filter (λ r. eq_by_cmp key_cmp k (key_of r)) rows

  rows_at-alone : (k : Key) (rows : List Row) → rows_at k (map (alone q) rows) ≡ map (alone q) (within k rows)
  rows_at-alone k [] = refl
  rows_at-alone k (r ∷ rows) =
      elim (eq_by_cmp key_cmp k (key_of r)) as (λ b. cond b (alone q r ∷ rows_at k (map (alone q) rows)) (rows_at k (map (alone q) rows)) ≡ map (alone q) (cond b (r ∷ within k rows) (within k rows)))
      [ true ↦ ap (λ l. alone q r ∷ l) (rows_at-alone k rows) | false ↦ rows_at-alone k rows ]

  -- one row with the folds of them all
  abbrev whole : List Row → List Row
  whole [] = []
  whole (r ∷ rows) = record { key = key_of r; metrics = folds q.aggregations (r ∷ rows) } ∷ []

  together-alone : (rows : List Row) → together true kinds (map (alone q) rows) ≡ whole rows
  together-alone [] = refl
  together-alone (r ∷ rows) = ap (λ m. record { key = key_of r; metrics = m } ∷ []) (combined_alone (r ∷ []) rows)

  module _ (rows : List Row) where
    abbrev chosen : List Row
    chosen = selected q rows

    group_at : (k : Key) → rows_at k (partial q rows) ≡ whole (within k chosen)
    group_at k = (IsRollup-rollup true kinds (map (alone q) chosen)).each k ∙ ap (together true kinds) (rows_at-alone k chosen) ∙ together-alone (within k chosen)

    -- both tests of a group are the same
    same_group : (a b : Key) → is_same_group a b ≡ eq_by_cmp key_cmp b a
    same_group a b = parts-same_keys a b ∙ same_keys-comm a b

    within-group : (k : Key) (some : List Row) → filter (λ r. is_same_group (key_of r) k) some ≡ within k some
    within-group k [] = refl
    within-group k (r ∷ some) = λ i. cond (same_group (key_of r) k i) (r ∷ within-group k some i) (within-group k some i)

    -- ---- the groups that there are

    metrics_of : (g : Row) (some : List Row) → g ∷ [] ≡ whole some → g.metrics ≡ folds q.aggregations some
    metrics_of g [] e = let h : g ∷ [] ≡ [] = e in cc
    metrics_of g (r ∷ some) e = let same : g ≡ record { key = key_of r; metrics = folds q.aggregations (r ∷ some) } = cc in ap (λ (x : Row). x.metrics) same

    group_is : (g : Row) → rows_at g.key (partial q rows) ≡ g ∷ [] → group q rows g.key ≡ result_row g
    group_is g one =
        let values : folds q.aggregations (filter (λ r. is_same_group (key_of r) g.key) chosen) ≡ g.metrics =
        ap (folds q.aggregations) (within-group g.key chosen) ∙ sym (metrics_of g (within g.key chosen) (sym one ∙ group_at g.key)) in
        λ i. record { time = g.key.time; dims = g.key.dims; values = values i }

none_at : (k : Key) (xs : List Row) → AllByRecursion (λ x. eq_by_cmp key_cmp k x.key ≡ false) xs → rows_at k xs ≡ []
none_at k [] all = refl
none_at k (x ∷ xs) all = ap (λ b. cond b (x ∷ rows_at k xs) (rows_at k xs)) all.0 ∙ none_at k xs all.1

both : (P Q R : Row → Type 0) → ((x : Row) → P x → Q x → R x) → (xs : List Row) → AllByRecursion P xs → AllByRecursion Q xs → AllByRecursion R xs
both P Q R f [] p q = tt
both P Q R f (x ∷ xs) p q = (f x p.0 q.0, both P Q R f xs p.1 q.1)

-- rising rows are the only ones of their keys
only_ones : (rows : List Row) → IsRising rows → AllByRecursion (λ g. rows_at g.key rows ≡ g ∷ []) rows
only_ones [] up = tt
only_ones (x ∷ xs) up = (
  ap (λ o. cond (is_eq o) (x ∷ rows_at x.key xs) (rows_at x.key xs)) (itself x.key)
      ∙ ap (λ l. x ∷ l) (none_at x.key xs (AllByRecursion-implied (λ y. key_cmp x.key y.key ≡ Less) (λ y. eq_by_cmp key_cmp x.key y.key ≡ false) (λ y h. above_differs x.key x.key y.key (itself x.key) h) xs up.0)),
  both (λ y. key_cmp x.key y.key ≡ Less) (λ g. rows_at g.key xs ≡ g ∷ []) (λ g. rows_at g.key (x ∷ xs) ≡ g ∷ [])
      (λ g less one. ap (λ o. cond (is_eq o) (x ∷ rows_at g.key xs) (rows_at g.key xs)) (less_back x.key g.key less) ∙ one) xs up.0 (only_ones xs up.1),
)

-- ---- their keys

keys-add_row : (ks : List Kind) (rows : List Row) (r : Row) → map (λ g. g.key) (add_row true ks rows r) ≡ with_group (map (λ g. g.key) rows) r.key
unfolding add_row
keys-add_row ks [] r = refl
keys-add_row ks (x ∷ xs) r =
    elim (key_cmp r.key x.key) as (λ o. map (λ (g : Row). g.key) (match_ordering o (r ∷ x ∷ xs) (joined ks x r ∷ xs) (x ∷ add_row true ks xs r)) ≡ match_ordering o (r.key ∷ x.key ∷ map (λ (g : Row). g.key) xs) (x.key ∷ map (λ (g : Row). g.key) xs) (x.key ∷ with_group (map (λ (g : Row). g.key) xs) r.key)) [
      | Less ↦ refl
      | Equal ↦ refl
      | Greater ↦ ap (λ l. x.key ∷ l) (keys-add_row ks xs r)
    ]

keys-rollup_onto : (ks : List Kind) (rows es : List Row) → map (λ g. g.key) (rollup_onto true ks rows es) ≡ fold with_group (map (λ g. g.key) rows) (map (λ g. g.key) es)
unfolding rollup_onto
keys-rollup_onto ks rows [] = refl
keys-rollup_onto ks rows (e ∷ es) = keys-rollup_onto ks (add_row true ks rows e) es ∙ ap (λ l. fold with_group l (map (λ g. g.key) es)) (keys-add_row ks rows e)

-- the folds of the first row
abbrev pub first_metrics : List Row → Option (List ℤ)
first_metrics [] = None
first_metrics (g ∷ gs) = Some g.metrics

pub values-first : (b : ℤ) (some : List Row) → values_at b some ≡ first_metrics (rows_at (record { time = b; dims = [] }) some)
values-first b [] = refl
values-first b (g ∷ gs) =
    let k : Key = record { time = b; dims = [] } in
    ap (λ (t : Bool). if t then Some g.metrics else values_at b gs) (parts-same_keys k g.key)
    ∙ (elim (eq_by_cmp key_cmp k g.key) as (λ t. (if t then Some g.metrics else values_at b gs) ≡ first_metrics (cond t (g ∷ rows_at k gs) (rows_at k gs))) [ true ↦ refl | false ↦ values-first b gs ])

module _ (q : Asked) (rows : List Row) where
  keys_alone : (some : List Row) → map (λ (g : Row). g.key) (map (alone q) some) ≡ map (λ (r : Row). group_of q (dimensions_by q.shape) r.key) some
  keys_alone [] = refl
  keys_alone (r ∷ some) = ap (λ l. group_of q (dimensions_by q.shape) r.key ∷ l) (keys_alone some)

  keys_of_partial : map (λ (g : Row). g.key) (partial q rows) ≡ groups_of q (dimensions_by q.shape) (selected q rows)
  keys_of_partial = keys-rollup_onto (kinds_in q.aggregations) [] (map (alone q) (selected q rows)) ∙ ap (fold with_group []) (keys_alone (selected q rows))

  each_result : (some : List Row) → AllByRecursion (λ g. group q rows g.key ≡ result_row g) some → map (group q rows) (map (λ (g : Row). g.key) some) ≡ map result_row some
  each_result [] all = refl
  each_result (g ∷ some) all = λ i. all.0 i ∷ each_result some all.1 i

  -- a group for each row of the partial result
  all_groups : map (group q rows) (groups_of q (dimensions_by q.shape) (selected q rows)) ≡ map result_row (partial q rows)
  all_groups =
      ap (map (group q rows)) (sym keys_of_partial)
      ∙ each_result (partial q rows) (AllByRecursion-implied (λ g. rows_at g.key (partial q rows) ≡ g ∷ []) (λ g. group q rows g.key ≡ result_row g) (group_is q rows) (partial q rows) (only_ones (partial q rows) (IsRising-rollup (kinds_in q.aggregations) (map (alone q) (selected q rows)))))

  -- ---- buckets that are filled

  whole-values : (some : List Row) → unwrap_or (first_metrics (whole q some)) (folds q.aggregations []) ≡ folds q.aggregations some
  whole-values [] = refl
  whole-values (r ∷ some) = refl

  bucket_is : (b : ℤ) → group q rows (record { time = b; dims = [] }) ≡ filled_row q (partial q rows) b
  bucket_is b =
      let k : Key = record { time = b; dims = [] } in
      let values : folds q.aggregations (filter (λ r. is_same_group (group_of q (dimensions_by q.shape) r.key) k) (selected q rows)) ≡ unwrap_or (values_at b (partial q rows)) (folds q.aggregations []) =
      ap (folds q.aggregations) (within-group q rows k (selected q rows))
      ∙ sym (ap (λ o. unwrap_or o (folds q.aggregations [])) (values-first b (partial q rows) ∙ ap first_metrics (group_at q rows k)) ∙ whole-values (within q k (selected q rows))) in
      λ i. record { time = b; dims = []; values = values i }

  all_buckets : (bs : List ℤ) → map (group q rows) (map (λ b. record { time = b; dims = [] }) bs) ≡ map (filled_row q (partial q rows)) bs
  all_buckets [] = refl
  all_buckets (b ∷ bs) = λ i. bucket_is b i ∷ all_buckets bs i

  by_shape : (s : AskedShape) → q.shape ≡ s → map (group q rows) (keys_by s q rows) ≡ groups_by s q (span rows) (partial q rows)
  by_shape (timeseries t) e =
      elim t.skips_empty_buckets as (λ skips. map (group q rows) (if skips then groups_of q [] (selected q rows) else filled q rows) ≡ (if skips then map result_row (partial q rows) else map (filled_row q (partial q rows)) (filled_in q (span rows)))) [
        | true ↦ ap (λ s. map (group q rows) (groups_of q (dimensions_by s) (selected q rows))) (sym e) ∙ all_groups
        | false ↦ all_buckets (filled_in q (span rows))
      ]
  by_shape (group_by g) e = ap (λ s. map (group q rows) (groups_of q (dimensions_by s) (selected q rows))) (sym e) ∙ all_groups
  by_shape (scan s) e = refl

  pub groups-from_partial : groups q rows ≡ groups_from q (span rows) (partial q rows)
  groups-from_partial = by_shape q.shape refl
