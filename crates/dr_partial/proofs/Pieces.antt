-- Rows that are added one after another.
use Rattle.std.proofs.Common.{◌≡◌, ◌∙◌, sym, refl, ap, subst, ℕ, zero, suc, ◌+◌, ◌<◌, Bool, true, false, cond, List, [], ◌∷◌, ◌++◌, map, length, take, get_or, Result, Ok, Err, OnOk, Option, None, Some, arith}
use Rattle.std.proofs.lemmas.List.{map-append, append-nil, take_more}
use Rattle.std.proofs.lemmas.List.Elements.{filter-append}
use Rattle.std.proofs.lemmas.List.Concat.{flat_map-cons}
use Rattle.std.specs.List.{AllByRecursion, flat_map}
use Rattle.dr_base.specs.declared.row.Row.{Row}
use Rattle.dr_agg.specs.declared.kind.Kind.{Kind}
use Rattle.dr_agg.specs.declared.kind.Kind.TheVariants.{Count, LongSum, LongMin, LongMax}
use Rattle.dr_agg.specs.Combination.{combine_of, unit_of}
use Rattle.dr_agg.specs.Rollup.{rollup_onto}
use Rattle.dr_ask.specs.declared.column.Column.{Column}
use Rattle.dr_ask.specs.declared.aggregation.Aggregation.{Aggregation}
use Rattle.dr_ask.specs.Asked.{Asked, dimensions_by}
use Rattle.dr_answers.specs.Fold.{reading_in, folds}
use Rattle.dr_answers.specs.Groups.{group_of}
use Rattle.dr_answers.specs.Selection.{selects, selected}
use Rattle.dr_partial.specs.Grouped.{bare, folds_alone, IsSound, Adds, AddsAll, in_order, with_rows}
use Rattle.dr_partial.specs.Partial.{kinds_in, alone, partial}
use Rattle.dr_rollup.proofs.Rows.{onto_append}

-- the key doesn't matter to what is read
pub read_bare : (k : Kind) (c : Option Column) (r : Row) → reading_in k c (bare r.metrics) ≡ reading_in k c r
read_bare Count c r = refl
read_bare LongSum None r = refl
read_bare LongSum (Some c) r = refl
read_bare LongMin None r = refl
read_bare LongMin (Some c) r = refl
read_bare LongMax None r = refl
read_bare LongMax (Some c) r = refl

pub folds_bare : (aggregations : List Aggregation) (r : Row) → folds_alone aggregations r.metrics ≡ folds aggregations (r ∷ [])
folds_bare [] r = refl
folds_bare (a ∷ more) r = λ i. combine_of a.kind (unit_of a.kind) (read_bare a.kind a.column r i) ∷ folds_bare more r i

module _ (q : Asked) where
  with_rows-append : (groups a b : List Row) → with_rows q groups (a ++ b) ≡ with_rows q (with_rows q groups a) b
  with_rows-append groups a b =
      let test : Row → Bool = λ r. selects q r.key in
      ap (λ l. rollup_onto true (kinds_in q.aggregations) groups (map (alone q) l)) (filter-append test a b)
      ∙ ap (rollup_onto true (kinds_in q.aggregations) groups) (map-append (alone q) (selected q a) (selected q b))
      ∙ onto_append (kinds_in q.aggregations) groups (map (alone q) (selected q a)) (map (alone q) (selected q b))

  pub no-rows : (before : List Row) → IsSound (kinds_in q.aggregations) before → AddsAll q before [] before
  unfolding rollup_onto
  no-rows before so = record { sound = so; groups = refl }

  pub more-rows : (before between after a b : List Row) → AddsAll q before a between → AddsAll q between b after → AddsAll q before (a ++ b) after
  more-rows before between after a b first second = record {
    sound = second.sound;
    groups = second.groups ∙ ap (λ l. with_rows q l b) first.groups ∙ sym (with_rows-append (in_order before) a b);
  }

  -- more rows, added to the groups of some
  pub added-behind : (before after x a rows : List Row) → in_order before ≡ x → x ≡ partial q a → AddsAll q before rows after → in_order after ≡ partial q (a ++ rows)
  added-behind before after x a rows is also adds = adds.groups ∙ ap (λ l. with_rows q l rows) (is ∙ also) ∙ sym (with_rows-append [] a rows)

  -- a row that isn't selected
  pub passed-over : (before : List Row) (r : Row) → selects q r.key ≡ false → IsSound (kinds_in q.aggregations) before → AddsAll q before (r ∷ []) before
  unfolding rollup_onto
  passed-over before r not_taken so = record { sound = so; groups = ap (λ b. rollup_onto true (kinds_in q.aggregations) (in_order before) (map (alone q) (cond b (r ∷ []) []))) (sym not_taken) }

  -- and one that is
  added-one : (before after : List Row) (r : Row) → selects q r.key ≡ true → Adds (kinds_in q.aggregations) before (alone q r) after → AddsAll q before (r ∷ []) after
  unfolding rollup_onto
  added-one before after r taken adds = record {
    sound = adds.sound;
    groups = adds.groups ∙ ap (λ b. rollup_onto true (kinds_in q.aggregations) (in_order before) (map (alone q) (cond b (r ∷ []) []))) (sym taken);
  }

  pub added : {A E : Type 0} (before after : List Row) (r : Row) → selects q r.key ≡ true → (result : Result A E)
      → OnOk result (Adds (kinds_in q.aggregations) before (record { key = group_of q (dimensions_by q.shape) r.key; metrics = folds_alone q.aggregations r.metrics }) after)
      → OnOk result (AddsAll q before (r ∷ []) after)
  added before after r taken (Err e) adds = tt
  added before after r taken (Ok u) adds =
      added-one before after r taken (subst (λ m. Adds (kinds_in q.aggregations) before (record { key = group_of q (dimensions_by q.shape) r.key; metrics = m }) after) (folds_bare q.aggregations r) adds)

  pub added-alone : {E : Type 0} (before after : List Row) (r : Row) → selects q r.key ≡ true → (result : Result (Unit {0}) E)
      → OnOk result (Adds (kinds_in q.aggregations) before (alone q r) after) → OnOk result (AddsAll q before (r ∷ []) after)
  added-alone before after r taken (Err e) adds = tt
  added-alone before after r taken (Ok u) adds = added-one before after r taken adds

  -- a loop's step over what becomes rows, one behind another
  module _ {X : Type 0} (rows_of : List X → List Row) (behind : (a b : List X) → rows_of (a ++ b) ≡ rows_of a ++ rows_of b) where
    pub next : (before between after : List Row) (xs : List X) (i : ℕ) (x : X) → i < length xs → x ≡ get_or xs i x
        → AddsAll q before (rows_of (take i xs)) between → AddsAll q between (rows_of (x ∷ [])) after → AddsAll q before (rows_of (take (i + 1) xs)) after
    next before between after xs i x lt is first second =
        let split : rows_of (take i xs) ++ rows_of (x ∷ []) ≡ rows_of (take (i + 1) xs) = sym (behind (take i xs) (x ∷ [])) ∙ ap (λ y. rows_of (take i xs ++ y ∷ [])) is ∙ ap rows_of (sym (take_more xs i x lt)) in
        subst (λ l. AddsAll q before l after) split (more-rows before between after (rows_of (take i xs)) (rows_of (x ∷ [])) first second)

-- ---- pieces

module _ {X A : Type 0} (f : X → List A) where
  pub only-piece : (x : X) → f x ≡ flat_map f (x ∷ [])
  only-piece x = sym (append-nil (f x)) ∙ sym (flat_map-cons f x [])

  module _ (P : A → Type 0) where
    left : (a b : List A) → AllByRecursion P (a ++ b) → AllByRecursion P a
    left [] b all = tt
    left (x ∷ a) b all = (all.0, left a b all.1)

    right : (a b : List A) → AllByRecursion P (a ++ b) → AllByRecursion P b
    right [] b all = all
    right (x ∷ a) b all = right a b all.1

    pub in-piece : (xs : List X) (i : ℕ) (x : X) → i < length xs → x ≡ get_or xs i x → AllByRecursion P (flat_map f xs) → AllByRecursion P (f x)
    in-piece [] i x lt is all = absurd (omega (arith, lt))
    in-piece (y ∷ xs) zero x lt is all = subst (λ z. AllByRecursion P (f z)) (sym is) (left (f y) (flat_map f xs) (subst (AllByRecursion P) (flat_map-cons f y xs) all))
    in-piece (y ∷ xs) (suc i) x lt is all = in-piece xs i x (omega (arith, lt)) is (right (f y) (flat_map f xs) (subst (AllByRecursion P) (flat_map-cons f y xs) all))
