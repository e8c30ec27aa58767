-- The groups of a query are those of the query that asks each dimension and each aggregation once, spread over its outputs.
use Rattle.std.proofs.Common.{◌≡◌, ◌∙◌, sym, refl, ap, ℕ, ℤ, pos, ◌==◌, ◌&&◌, true, false, cond, List, [], ◌∷◌, Option, Some, None, map, filter, if◌then◌else◌, bytes_eq}
use Rattle.std.specs.List.{fold, AllByRecursion}
use Rattle.std.specs.Cmp.Lexicographic.{slice_cmp, pointwise}
use Rattle.std.specs.Ordering.{int_eq, int_cmp, nat_cmp, is_eq, match_ordering, ordering_then}
use Rattle.std.specs.declared.cmp.Ordering.{Ordering}
use Rattle.std.specs.declared.cmp.Ordering.TheVariants.{Less, Equal, Greater}
use Rattle.std.proofs.lemmas.Bool.{and_parts, eqb-true}
use Rattle.std.proofs.lemmas.Map.Text.{is_eq-slice_cmp}
use Rattle.dr_base.specs.declared.key.Key.{Key}
use Rattle.dr_base.specs.declared.row.Row.{Row}
use Rattle.dr_base.specs.Order.{key_cmp}
use Rattle.dr_agg.specs.declared.kind.Kind.{Kind}
use Rattle.dr_agg.specs.declared.kind.Kind.TheVariants.{Count, LongSum, LongMin, LongMax}
use Rattle.dr_agg.specs.Combination.{fold_of}
use Rattle.dr_predicate.specs.Match.{value_at}
use Rattle.dr_outputs.specs.Numbered.{numbers_by, texts_by}
use Rattle.dr_ask.specs.declared.aggregation.Aggregation.{Aggregation}
use Rattle.dr_ask.specs.declared.column.Column.{Column}
use Rattle.dr_ask.specs.declared.dimension.Dimension.{Dimension}
use Rattle.dr_ask.specs.Asked.{Asked, AskedShape, timeseries, group_by, scan, dimensions_by}
use Rattle.dr_ask.specs.Firsts.{firsts, numbers_of, is_same_place, is_same_column, is_same_kind, is_same_dimension, is_same_aggregation}
use Rattle.dr_ask.specs.Once.{once, once_shape}
use Rattle.dr_ask.proofs.Firsts.{dimension-itself, aggregation-itself}
use Rattle.dr_answers.specs.Fold.{reading_in, folded, folds}
use Rattle.dr_answers.specs.Groups.{bucket, grouped_values, group_of, is_same_group, with_group, groups_of, filled_in, filled, keys_by, group, groups}
use Rattle.dr_answers.specs.Selection.{selected}
use Rattle.dr_answers.specs.Span.{span}
use Rattle.dr_answers.specs.Spread.{spread}
use Rattle.dr_answers.proofs.Alikes.{compared-firsts, values-firsts}

-- ---- what is the same has the same values

pub place_same : (p q : Option ℕ) → is_same_place p q ≡ true → p ≡ q
place_same None None h = refl
place_same None (Some j) h = absurd (cc)
place_same (Some i) None h = absurd (cc)
place_same (Some i) (Some j) h = ap Some (eqb-true i j h)

kind_same : (k l : Kind) → is_same_kind k l ≡ true → k ≡ l
kind_same Count Count h = refl
kind_same Count LongSum h = absurd (cc)
kind_same Count LongMin h = absurd (cc)
kind_same Count LongMax h = absurd (cc)
kind_same LongSum Count h = absurd (cc)
kind_same LongSum LongSum h = refl
kind_same LongSum LongMin h = absurd (cc)
kind_same LongSum LongMax h = absurd (cc)
kind_same LongMin Count h = absurd (cc)
kind_same LongMin LongSum h = absurd (cc)
kind_same LongMin LongMin h = refl
kind_same LongMin LongMax h = absurd (cc)
kind_same LongMax Count h = absurd (cc)
kind_same LongMax LongSum h = absurd (cc)
kind_same LongMax LongMin h = absurd (cc)
kind_same LongMax LongMax h = refl

column_same : (c d : Option Column) → is_same_column c d ≡ true → c ≡ d
column_same None None h = refl
column_same None (Some d) h = absurd (cc)
column_same (Some c) None h = absurd (cc)
column_same (Some c) (Some d) h =
    let parts = and_parts (c.place == d.place) (is_same_kind c.kind d.kind) h in
    let place : c.place ≡ d.place = eqb-true c.place d.place parts.0 in
    let kind : c.kind ≡ d.kind = kind_same c.kind d.kind parts.1 in
    λ i. Some (record { place = place i; kind = kind i })

folded_same : (rows : List Row) (a b : Aggregation) → is_same_aggregation a b ≡ true → folded a rows ≡ folded b rows
folded_same rows a b h =
    let parts = and_parts (is_same_kind a.kind b.kind) (is_same_column a.column b.column) h in
    let kind : a.kind ≡ b.kind = kind_same a.kind b.kind parts.0 in
    let column : a.column ≡ b.column = column_same a.column b.column parts.1 in
    λ i. fold_of (kind i) (map (reading_in (kind i) (column i)) rows)

value_same : (dims : List (List ℕ)) (d e : Dimension) → is_same_dimension d e ≡ true → value_at d.place dims ≡ value_at e.place dims
value_same dims d e h = ap (λ p. value_at p dims) (place_same d.place e.place h)

pub folds-spread : (aggregations : List Aggregation) (rows : List Row)
    → numbers_by (numbers_of is_same_aggregation aggregations) (folds (firsts is_same_aggregation aggregations) rows) ≡ folds aggregations rows
folds-spread aggregations rows = values-firsts is_same_aggregation aggregation-itself (pos 0) (λ a. folded a rows) (folded_same rows) aggregations

values-spread : (ds : List Dimension) (dims : List (List ℕ))
    → texts_by (numbers_of is_same_dimension ds) (grouped_values (firsts is_same_dimension ds) dims) ≡ grouped_values ds dims
values-spread ds dims = values-firsts is_same_dimension dimension-itself [] (λ d. value_at d.place dims) (value_same dims) ds

-- ---- lists of texts are equal where they compare as equal

is_eq-then : (o p : Ordering) → is_eq (ordering_then o p) ≡ (is_eq o && is_eq p)
is_eq-then Less p = refl
is_eq-then Equal p = refl
is_eq-then Greater p = refl

equal_texts : (xs ys : List (List ℕ)) → pointwise bytes_eq xs ys ≡ is_eq (slice_cmp (slice_cmp nat_cmp) xs ys)
equal_texts [] [] = refl
equal_texts [] (y ∷ ys) = refl
equal_texts (x ∷ xs) [] = refl
equal_texts (x ∷ xs) (y ∷ ys) =
    (λ i. sym (is_eq-slice_cmp x y) i && equal_texts xs ys i) ∙ sym (is_eq-then (slice_cmp nat_cmp x y) (slice_cmp (slice_cmp nat_cmp) xs ys))

-- ---- keys

module _ (ds : List Dimension) where
  abbrev found : List Dimension
  found = firsts is_same_dimension ds

  -- the key of the group of a key
  abbrev wide : Key → Key
  wide k = record { time = k.time; dims = texts_by (numbers_of is_same_dimension ds) k.dims }

  -- the dimension values are those of some row
  abbrev IsOfRow : Key → Type 0
  IsOfRow k = (dims : List (List ℕ)) × (k.dims ≡ grouped_values found dims)

  wide_dims : (k : Key) (o : IsOfRow k) → (wide k).dims ≡ grouped_values ds o.0
  wide_dims k o = ap (texts_by (numbers_of is_same_dimension ds)) o.1 ∙ values-spread ds o.0

  values_cmp : (x y : List (List ℕ)) → slice_cmp (slice_cmp nat_cmp) (grouped_values ds x) (grouped_values ds y) ≡ slice_cmp (slice_cmp nat_cmp) (grouped_values found x) (grouped_values found y)
  values_cmp x y = sym (compared-firsts is_same_dimension (slice_cmp nat_cmp) (λ d. value_at d.place x) (λ d. value_at d.place y) (value_same x) (value_same y) ds)

  dims_cmp : (a b : Key) → IsOfRow a → IsOfRow b → slice_cmp (slice_cmp nat_cmp) (wide a).dims (wide b).dims ≡ slice_cmp (slice_cmp nat_cmp) a.dims b.dims
  dims_cmp a b o p =
      (λ i. slice_cmp (slice_cmp nat_cmp) (wide_dims a o i) (wide_dims b p i))
      ∙ values_cmp o.0 p.0
      ∙ (λ i. slice_cmp (slice_cmp nat_cmp) (sym o.1 i) (sym p.1 i))

  wide_cmp : (a b : Key) → IsOfRow a → IsOfRow b → key_cmp (wide a) (wide b) ≡ key_cmp a b
  wide_cmp a b o p = ap (ordering_then (int_cmp a.time b.time)) (dims_cmp a b o p)

  wide_same : (a b : Key) → IsOfRow a → IsOfRow b → is_same_group (wide a) (wide b) ≡ is_same_group a b
  wide_same a b o p =
      ap (λ t. int_eq a.time b.time && t) (equal_texts (wide a).dims (wide b).dims ∙ ap is_eq (dims_cmp a b o p) ∙ sym (equal_texts a.dims b.dims))

  all-with_group : (ks : List Key) (k : Key) → AllByRecursion IsOfRow ks → IsOfRow k → AllByRecursion IsOfRow (with_group ks k)
  all-with_group [] k all one = (one, tt)
  all-with_group (h ∷ hs) k all one =
      let more = all-with_group hs k all.1 one in
      elim (key_cmp k h) as (λ o. AllByRecursion IsOfRow (match_ordering o (k ∷ h ∷ hs) (h ∷ hs) (h ∷ with_group hs k)))
      [ Less ↦ (one, all) | Equal ↦ all | Greater ↦ (all.0, more) ]

  wide-with_group : (ks : List Key) (k : Key) → AllByRecursion IsOfRow ks → IsOfRow k → with_group (map wide ks) (wide k) ≡ map wide (with_group ks k)
  wide-with_group [] k all one = refl
  wide-with_group (h ∷ hs) k all one =
      let more = wide-with_group hs k all.1 one in
      ap (λ o. match_ordering o (wide k ∷ wide h ∷ map wide hs) (wide h ∷ map wide hs) (wide h ∷ with_group (map wide hs) (wide k))) (wide_cmp k h one all.0)
      ∙ (elim (key_cmp k h) as (λ o. match_ordering o (wide k ∷ wide h ∷ map wide hs) (wide h ∷ map wide hs) (wide h ∷ with_group (map wide hs) (wide k)) ≡ map wide (match_ordering o (k ∷ h ∷ hs) (h ∷ hs) (h ∷ with_group hs k)))
      [ Less ↦ refl | Equal ↦ refl | Greater ↦ ap (λ l. wide h ∷ l) more ])

  all-fold : (ks more : List Key) → AllByRecursion IsOfRow ks → AllByRecursion IsOfRow more → AllByRecursion IsOfRow (fold with_group ks more)
  all-fold ks [] all each = all
  all-fold ks (k ∷ more) all each = all-fold (with_group ks k) more (all-with_group ks k all each.0) each.1

  wide-fold : (ks more : List Key) → AllByRecursion IsOfRow ks → AllByRecursion IsOfRow more → fold with_group (map wide ks) (map wide more) ≡ map wide (fold with_group ks more)
  wide-fold ks [] all each = refl
  wide-fold ks (k ∷ more) all each =
      ap (λ l. fold with_group l (map wide more)) (wide-with_group ks k all each.0) ∙ wide-fold (with_group ks k) more (all-with_group ks k all each.0) each.1

  module _ (q : Asked) where
    wide_group : (k : Key) → group_of q ds k ≡ wide (group_of (once q) found k)
    wide_group k = λ i. record { time = bucket q k.time; dims = sym (values-spread ds k.dims) i }

    row_keys : (rows : List Row) → map (λ (r : Row). group_of q ds r.key) rows ≡ map wide (map (λ (r : Row). group_of (once q) found r.key) rows)
    row_keys [] = refl
    row_keys (r ∷ rows) = λ i. wide_group r.key i ∷ row_keys rows i

    of_rows : (rows : List Row) → AllByRecursion IsOfRow (map (λ (r : Row). group_of (once q) found r.key) rows)
    of_rows [] = tt
    of_rows (r ∷ rows) = ((r.key.dims, refl), of_rows rows)

    keys-wide : (rows : List Row) → groups_of q ds rows ≡ map wide (groups_of (once q) found rows)
    keys-wide rows = ap (fold with_group []) (row_keys rows) ∙ wide-fold [] (map (λ (r : Row). group_of (once q) found r.key) rows) tt (of_rows rows)

    keys-of_rows : (rows : List Row) → AllByRecursion IsOfRow (groups_of (once q) found rows)
    keys-of_rows rows = all-fold [] (map (λ (r : Row). group_of (once q) found r.key) rows) tt (of_rows rows)

    -- the rows of a group
    within : (k : Key) → IsOfRow k → (rows : List Row) → filter (λ r. is_same_group (group_of q ds r.key) (wide k)) rows ≡ filter (λ r. is_same_group (group_of (once q) found r.key) k) rows
    within k o [] = refl
    within k o (r ∷ rows) =
        let test : is_same_group (group_of q ds r.key) (wide k) ≡ is_same_group (group_of (once q) found r.key) k =
        ap (λ g. is_same_group g (wide k)) (wide_group r.key) ∙ wide_same (group_of (once q) found r.key) k (r.key.dims, refl) o in
        λ i. cond (test i) (r ∷ within k o rows i) (within k o rows i)

-- ---- the keys by the type of a query

bare : (starts : List ℤ) → map (λ (b : ℤ). record { time = b; dims = [] }) starts ≡ map (wide []) (map (λ (b : ℤ). record { time = b; dims = [] }) starts)
bare [] = refl
bare (b ∷ starts) = ap (λ l. record { time = b; dims = [] } ∷ l) (bare starts)

all-bare : (starts : List ℤ) → AllByRecursion (IsOfRow []) (map (λ (b : ℤ). record { time = b; dims = [] }) starts)
all-bare [] = tt
all-bare (b ∷ starts) = (([], refl), all-bare starts)

once_dimensions : (s : AskedShape) → dimensions_by (once_shape s) ≡ firsts is_same_dimension (dimensions_by s)
once_dimensions (timeseries t) = refl
once_dimensions (group_by g) = refl
once_dimensions (scan s) = refl

module _ (q : Asked) (rows : List Row) where
  keys-once : (s : AskedShape) → keys_by s q rows ≡ map (wide (dimensions_by s)) (keys_by (once_shape s) (once q) rows)
  keys-once (timeseries t) =
      elim t.skips_empty_buckets as (λ b. (if b then groups_of q [] (selected q rows) else filled q rows) ≡ map (wide []) (if b then groups_of (once q) [] (selected q rows) else filled q rows))
      [ true ↦ keys-wide [] q (selected q rows) | false ↦ bare (filled_in q (span rows)) ]
  keys-once (group_by g) = keys-wide g.dimensions q (selected q rows)
  keys-once (scan s) = refl

  all-once : (s : AskedShape) → AllByRecursion (IsOfRow (dimensions_by s)) (keys_by (once_shape s) (once q) rows)
  all-once (timeseries t) =
      elim t.skips_empty_buckets as (λ b. AllByRecursion (IsOfRow []) (if b then groups_of (once q) [] (selected q rows) else filled q rows))
      [ true ↦ keys-of_rows [] q (selected q rows) | false ↦ all-bare (filled_in q (span rows)) ]
  all-once (group_by g) = keys-of_rows g.dimensions q (selected q rows)
  all-once (scan s) = tt

  abbrev dims : List Dimension
  dims = dimensions_by q.shape

  -- a group, with its folds
  group-once : (k : Key) → IsOfRow dims k → group q rows (wide dims k) ≡ spread q (group (once q) rows k)
  group-once k o =
      let rest : List Row = filter (λ (r : Row). is_same_group (group_of (once q) (firsts is_same_dimension dims) r.key) k) (selected q rows) in
      let some : List Row = filter (λ (r : Row). is_same_group (group_of (once q) (dimensions_by (once_shape q.shape)) r.key) k) (selected q rows) in
      let named : some ≡ rest =
      ap (λ ds. filter (λ (r : Row). is_same_group (group_of (once q) ds r.key) k) (selected q rows)) (once_dimensions q.shape) in
      let values : folds q.aggregations (filter (λ (r : Row). is_same_group (group_of q dims r.key) (wide dims k)) (selected q rows)) ≡ numbers_by (numbers_of is_same_aggregation q.aggregations) (folds (firsts is_same_aggregation q.aggregations) some) =
      ap (folds q.aggregations) (within dims q k o (selected q rows) ∙ sym named) ∙ sym (folds-spread q.aggregations some) in
      λ i. record { time = k.time; dims = (wide dims k).dims; values = values i }

  each-once : (ks : List Key) → AllByRecursion (IsOfRow dims) ks → map (group q rows) (map (wide dims) ks) ≡ map (spread q) (map (group (once q) rows) ks)
  each-once [] all = refl
  each-once (k ∷ ks) all = λ i. group-once k all.0 i ∷ each-once ks all.1 i

  pub groups-once : groups q rows ≡ map (spread q) (groups (once q) rows)
  groups-once = ap (map (group q rows)) (keys-once q.shape) ∙ each-once (keys_by (once_shape q.shape) (once q) rows) (all-once q.shape)
