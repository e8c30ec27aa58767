-- Rows of an image that are added column by column.
use Rattle.std.proofs.Common.{◌≡◌, ◌∙◌, sym, refl, ap, subst, ℕ, zero, suc, ◌+◌, ◌-◌, ◌<◌, ◌≤◌, ℤ, true, false, true≢false, cond, List, [], ◌∷◌, ◌++◌, map, length, get_or, drop, slice_get, slice_set, is_some, unwrap_or, Some, Result, Ok, Err, OnOk, arith}
use Rattle.std.specs.List.{AllByRecursion, range_with_len}
use Rattle.std.proofs.lemmas.List.{append-nil, length-map}
use Rattle.dr_base.specs.declared.key.Key.{Key}
use Rattle.dr_base.specs.declared.row.Row.{Row}
use Rattle.dr_agg.specs.declared.kind.Kind.{Kind}
use Rattle.dr_agg.specs.Combination.{combine_columns, fold_of, FitsColumns}
use Rattle.dr_agg.specs.Rollup.{add_row, rollup_onto}
use Rattle.dr_rollup.specs.Entries.{HasKeyAt}
use Rattle.dr_rollup.proofs.Rows.{joined_twice}
use Rattle.dr_ask.specs.declared.aggregation.Aggregation.{Aggregation}
use Rattle.dr_ask.specs.Asked.{Asked, dimensions_by}
use Rattle.dr_answers.specs.Fold.{reading_in, folded, folds}
use Rattle.dr_answers.specs.Groups.{group_of}
use Rattle.dr_answers.specs.Selection.{selects, selected}
use Rattle.dr_image.specs.Table.{Table, row_at}
use Rattle.dr_columns.specs.declared.reading.Reading.{Reading}
use Rattle.dr_columns.specs.Read.{read_at}
use Rattle.dr_partial.specs.declared.known.Known.{Known}
use Rattle.dr_partial.specs.Grouped.{IsSound, Adds, AddsAll, CombinesAt, in_order}
use Rattle.dr_partial.specs.Known.{AreKnown, KeepsKeys, group_in}
use Rattle.dr_partial.specs.Partial.{kinds_in, alone}
use Rattle.dr_columns.specs.Rows.{rows_between}
use Rattle.dr_partial.proofs.Groups.{folds_push}
use Rattle.dr_partial.proofs.Pieces.{no-rows, more-rows, passed-over}
use Rattle.dr_rollup.proofs.Flat.{member}

-- ---- what aggregations read, column by column

parts : {X : Type 0} (x y : X) (xs ys : List X) → x ∷ xs ≡ y ∷ ys → (x ≡ y) × (xs ≡ ys)
parts x y xs ys e = (ap (λ l. get_or l 0 x) e, ap (drop 1) e)

read_each : (f : ℕ → ℤ) (g : Row → ℤ) (t : Table) → ((i : ℕ) → f i ≡ g (row_at t i)) → (is : List ℕ) → map f is ≡ map g (map (row_at t) is)
read_each f g t same [] = refl
read_each f g t same (i ∷ is) = λ j. same i j ∷ read_each f g t same is j

-- what is read of the rows with these numbers, combined one by one, is what the aggregations fold to over these rows
pub read-folds : (t : Table) (rs : List Reading) (aggs : List Aggregation) → map (λ r. r.kind) rs ≡ map (λ a. a.kind) aggs
    → ((i : ℕ) → map (λ r. read_at r i) rs ≡ map (λ a. reading_in a.kind a.column (row_at t i)) aggs)
    → (is : List ℕ) → map (λ r. fold_of r.kind (map (read_at r) is)) rs ≡ folds aggs (map (row_at t) is)
read-folds t [] [] kinds read is = refl
read-folds t [] (a ∷ aggs) kinds read is = absurd (omega (arith, ap length kinds))
read-folds t (r ∷ rs) [] kinds read is = absurd (omega (arith, ap length kinds))
read-folds t (r ∷ rs) (a ∷ aggs) kinds read is =
    let k = parts r.kind a.kind (map (λ x. x.kind) rs) (map (λ x. x.kind) aggs) kinds in
    let one : (i : ℕ) → read_at r i ≡ reading_in a.kind a.column (row_at t i) = λ i. (parts (read_at r i) _ (map (λ x. read_at x i) rs) (map (λ x. reading_in x.kind x.column (row_at t i)) aggs) (read i)).0 in
    let more : (i : ℕ) → map (λ x. read_at x i) rs ≡ map (λ x. reading_in x.kind x.column (row_at t i)) aggs = λ i. (parts (read_at r i) _ (map (λ x. read_at x i) rs) (map (λ x. reading_in x.kind x.column (row_at t i)) aggs) (read i)).1 in
    λ j. fold_of (k.0 j) (read_each (read_at r) (reading_in a.kind a.column) t one is j) ∷ read-folds t rs aggs k.1 more is j

pub fits-folds : (aggregations : List Aggregation) (rows : List Row) → FitsColumns (kinds_in aggregations) (folds aggregations rows)
fits-folds aggregations rows = length-map aggregations (λ a. folded a rows) ∙ sym (length-map aggregations (λ a. a.kind))

-- ---- keys stay at their places

keeps_set : (xs : List Row) (j : ℕ) (g : Row) (m : List ℤ) → slice_get xs j ≡ Some g → KeepsKeys xs (slice_set xs j (record { key = g.key; metrics = m }))
keeps_set [] j g m at k p h = h
keeps_set (x ∷ xs) zero g m at k zero h = (record { key = g.key; metrics = m }, refl, ap (λ o. (unwrap_or o x).key) (sym at ∙ h.1) ∙ h.2)
keeps_set (x ∷ xs) zero g m at k (suc p) h = h
keeps_set (x ∷ xs) (suc j) g m at k zero h = h
keeps_set (x ∷ xs) (suc j) g m at k (suc p) h = keeps_set xs j g m at k p h

pub keeps-combined : (kinds : List Kind) (values : List ℤ) (before : List Row) (place : ℕ) (after : List Row) → place < length before → CombinesAt kinds values before place after → KeepsKeys before after
keeps-combined kinds values before place after lt combines =
    let g = member before place lt in
    subst (KeepsKeys before) (sym (combines g.0 g.1)) (keeps_set before place g.0 (combine_columns kinds g.0.metrics values) g.1)

pub keeps-pushed : (before : List Row) (g : Row) → KeepsKeys before (before ++ g ∷ [])
keeps-pushed [] g k p h = absurd (true≢false (sym (ap is_some h.1)))
keeps-pushed (x ∷ xs) g k zero h = h
keeps-pushed (x ∷ xs) g k (suc p) h = keeps-pushed xs g k p h

pub last-pushed : (before : List Row) (g : Row) → HasKeyAt g.key (before ++ g ∷ []) (length before)
last-pushed [] g = (g, refl, refl)
last-pushed (x ∷ xs) g = last-pushed xs g

pub still-known : (q : Asked) (t : Table) (before after : List Row) (known : List Known) → KeepsKeys before after → AreKnown q t before known → AreKnown q t after known
still-known q t before after [] keeps all = tt
still-known q t before after (k ∷ known) keeps all = (keeps (group_in q t k.bucket k.row) k.place all.0, still-known q t before after known keeps all.1)

pub known-at : (q : Asked) (t : Table) (groups : List Row) (known : List Known) (i : ℕ) (k : Known) → slice_get known i ≡ Some k → AreKnown q t groups known → HasKeyAt (group_in q t k.bucket k.row) groups k.place
known-at q t groups [] i k at all = absurd (true≢false (sym (ap is_some at)))
known-at q t groups (x ∷ known) zero k at all = subst (λ (y : Known). HasKeyAt (group_in q t y.bucket y.row) groups y.place) (ap (λ o. unwrap_or o x) at) all.0
known-at q t groups (x ∷ known) (suc i) k at all = known-at q t groups known i k at all.1

-- ---- rows of one group that are added together

module _ (q : Asked) where
  abbrev key_of : Row → Key
  key_of r = group_of q (dimensions_by q.shape) r.key

  -- a row that is selected and belongs to a group
  abbrev pub IsOf : Key → Row → Type 0
  IsOf k r = (selects q r.key ≡ true) × (key_of r ≡ k)

  more_of : (groups done rest : List Row) (k : Key) → AllByRecursion (IsOf k) rest
      → rollup_onto true (kinds_in q.aggregations) (add_row true (kinds_in q.aggregations) groups (record { key = k; metrics = folds q.aggregations done })) (map (alone q) (selected q rest))
      ≡ add_row true (kinds_in q.aggregations) groups (record { key = k; metrics = folds q.aggregations (done ++ rest) })
  unfolding rollup_onto
  more_of groups done [] k all = ap (λ l. add_row true (kinds_in q.aggregations) groups (record { key = k; metrics = folds q.aggregations l })) (sym (append-nil done))
  more_of groups done (r ∷ rest) k all =
      let kinds = kinds_in q.aggregations in
      let base : List ℤ → List Row = λ m. add_row true kinds groups (record { key = k; metrics = m }) in
      ap (λ b. rollup_onto true kinds (base (folds q.aggregations done)) (map (alone q) (cond b (r ∷ selected q rest) (selected q rest)))) all.0.0
      ∙ ap (λ (j : Key). rollup_onto true kinds (add_row true kinds (base (folds q.aggregations done)) (record { key = j; metrics = folds q.aggregations (r ∷ []) })) (map (alone q) (selected q rest))) all.0.1
      ∙ ap (λ l. rollup_onto true kinds l (map (alone q) (selected q rest))) (joined_twice kinds groups (record { key = k; metrics = folds q.aggregations done }) (folds q.aggregations (r ∷ [])))
      ∙ ap (λ m. rollup_onto true kinds (base m) (map (alone q) (selected q rest))) (folds_push q.aggregations done r)
      ∙ more_of groups (done ++ r ∷ []) rest k all.1
      ∙ ap (λ l. base (folds q.aggregations l)) (regrouped done r rest)
    where
      regrouped : (xs : List Row) (x : Row) (ys : List Row) → (xs ++ x ∷ []) ++ ys ≡ xs ++ x ∷ ys
      regrouped [] x ys = refl
      regrouped (y ∷ xs) x ys = ap (λ l. y ∷ l) (regrouped xs x ys)

  pub together-added : (before after : List Row) (k : Key) (r : Row) (rest : List Row) → AllByRecursion (IsOf k) (r ∷ rest)
      → Adds (kinds_in q.aggregations) before (record { key = k; metrics = folds q.aggregations (r ∷ rest) }) after → AddsAll q before (r ∷ rest) after
  unfolding rollup_onto
  together-added before after k r rest all adds = record {
    sound = adds.sound;
    groups = adds.groups ∙ sym (
        ap (λ b. rollup_onto true (kinds_in q.aggregations) (in_order before) (map (alone q) (cond b (r ∷ selected q rest) (selected q rest)))) all.0.0
        ∙ ap (λ (j : Key). rollup_onto true (kinds_in q.aggregations) (add_row true (kinds_in q.aggregations) (in_order before) (record { key = j; metrics = folds q.aggregations (r ∷ []) })) (map (alone q) (selected q rest))) all.0.1
        ∙ more_of (in_order before) (r ∷ []) rest k all.1);
  }

-- ---- the rows from a number on, up to another

all_counted : (P : Row → Type 0) (t : Table) (a n : ℕ) → ((i : ℕ) → a ≤ i → i < a + n → P (row_at t i)) → AllByRecursion P (map (row_at t) (range_with_len a n))
all_counted P t a zero each = tt
all_counted P t a (suc n) each = (each a (omega arith) (omega arith), all_counted P t (a + 1) n (λ i le lt. each i (omega (arith, le)) (omega (arith, lt))))

pub all-between : (P : Row → Type 0) (t : Table) (from to : ℕ) → from ≤ to → ((i : ℕ) → from ≤ i → i < to → P (row_at t i)) → AllByRecursion P (rows_between t from to)
all-between P t from to le each = all_counted P t from (to - from) (λ i low high. each i low (omega (arith, le, high)))

first-between : (t : Table) (from to : ℕ) → from < to → rows_between t from to ≡ row_at t from ∷ rows_between t (from + 1) to
first-between t from to lt =
    let n : to - from ≡ suc (to - (from + 1)) = omega (arith, lt) in
    ap (λ k. map (row_at t) (range_with_len from k)) n

pub run-added : {E : Type 0} (q : Asked) (t : Table) (from to : ℕ) (before after : List Row) (k : Key) (values : List ℤ) (result : Result (Unit {0}) E) → from < to
    → ((i : ℕ) → from ≤ i → i < to → IsOf q k (row_at t i)) → values ≡ folds q.aggregations (rows_between t from to)
    → OnOk result (Adds (kinds_in q.aggregations) before (record { key = k; metrics = values }) after) → OnOk result (AddsAll q before (rows_between t from to) after)
run-added q t from to before after k values (Err e) lt each is adds = tt
run-added q t from to before after k values (Ok u) lt each is adds =
    let first = first-between t from to lt in
    let rest = rows_between t (from + 1) to in
    subst (λ l. AddsAll q before l after) (sym first)
    (together-added q before after k (row_at t from) rest (subst (AllByRecursion (IsOf q k)) first (all-between (IsOf q k) t from to (omega (arith, lt)) each))
    (subst (λ m. Adds (kinds_in q.aggregations) before (record { key = k; metrics = m }) after) (is ∙ ap (folds q.aggregations) first) adds))

-- ---- rows that are left out

pub none-added : (q : Asked) (rows before : List Row) → AllByRecursion (λ r. selects q r.key ≡ false) rows → IsSound (kinds_in q.aggregations) before → AddsAll q before rows before
none-added q [] before all so = no-rows q before so
none-added q (r ∷ rows) before all so = more-rows q before before before (r ∷ []) rows (passed-over q before r all.0 so) (none-added q rows before all.1 so)
