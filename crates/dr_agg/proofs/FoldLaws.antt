-- Folds over rows and over their rollup.
use Rattle.std.proofs.Common.{◌≡◌, ◌∙◌, sym, refl, ap, ℕ, zero, suc, ℤ, pos, Bool, true, false, List, [], ◌∷◌, ◌++◌, Some, None, cond, append_assoc, map, arith}
use Rattle.std.proofs.lemmas.List.{append-nil, map-append}
use Rattle.std.proofs.lemmas.List.Elements.{filter-append}
use Rattle.std.proofs.lemmas.List.Sums.{fold-append}
use Rattle.std.specs.Prelude.{if◌then◌else◌, slice_get, drop, FitsSigned}
use Rattle.std.specs.Int.{w64}
use Rattle.std.specs.List.{filter, fold}
use Rattle.std.specs.declared.cmp.Ordering.TheVariants.{Less, Equal, Greater}
use Rattle.std.specs.Ordering.{match_ordering}
use Rattle.dr_base.specs.declared.key.Key.{Key}
use Rattle.dr_base.specs.declared.row.Row.{Row}
use Rattle.dr_base.specs.Order.{key_cmp}
use Rattle.dr_agg.specs.declared.kind.Kind.{Kind}
use Rattle.dr_agg.specs.declared.kind.Kind.TheVariants.{Count, LongSum, LongMin, LongMax}
use Rattle.dr_agg.specs.Combination.{combine_of, unit_of, combine_columns, matches_column, column}
use Rattle.dr_agg.specs.CombinationLaws.{wrapping_sum-unit}
use Rattle.dr_agg.specs.Rollup.{joined, add_row, rollup_onto, rollup, fold_rows}
use Rattle.dr_agg.proofs.KeyOrder.{same_key}
use Rattle.dr_agg.proofs.ColumnLaws.{combine_of-assoc, combine_of-exchange}

-- a value more, at the start or at the end
pub fold_first : (k : Kind) (a b : ℤ) (values : List ℤ) → fold (combine_of k) (combine_of k a b) values ≡ combine_of k (fold (combine_of k) a values) b
fold_first k a b [] = refl
fold_first k a b (v ∷ values) = ap (λ c. fold (combine_of k) c values) (combine_of-exchange k a b v) ∙ fold_first k (combine_of k a v) b values

module _ (k : Kind) (value : Row → ℤ) (test : Row → Bool) where
  -- the fold from a value on
  abbrev pub fold_from : ℤ → List Row → ℤ
  fold_from a rows = fold (combine_of k) a (map value (filter test rows))

  pub fold_from-append : (a : ℤ) (xs ys : List Row) → fold_from a (xs ++ ys) ≡ fold_from (fold_from a xs) ys
  fold_from-append a xs ys =
      ap (λ l. fold (combine_of k) a (map value l)) (filter-append test xs ys)
      ∙ ap (fold (combine_of k) a) (map-append value (filter test xs) (filter test ys))
      ∙ fold-append (combine_of k) a (map value (filter test xs)) (map value (filter test ys))

  -- a row goes from the front to the end
  fold_from_moved : (a : ℤ) (r : Row) (rows : List Row) → fold_from a (r ∷ rows) ≡ fold_from a (rows ++ r ∷ [])
  fold_from_moved a r rows =
      elim (test r) as (λ b. fold (combine_of k) a (map value (cond b (r ∷ filter test rows) (filter test rows))) ≡ fold (combine_of k) (fold_from a rows) (map value (cond b (r ∷ []) [])))
      [ true ↦ fold_first k a (value r) (map value (filter test rows)) | false ↦ refl ]
      ∙ sym (fold_from-append a rows (r ∷ []))

  -- the test and the value of rows of one key, and of the row that they become
  pub record IsKept (kinds : List Kind) : Type 0 where
    pub other : (x r : Row) → key_cmp r.key x.key ≡ Equal → test r ≡ test x
    pub both : (x r : Row) → key_cmp r.key x.key ≡ Equal → test (joined kinds x r) ≡ test x
    pub combination : (x r : Row) → key_cmp r.key x.key ≡ Equal → value (joined kinds x r) ≡ combine_of k (value x) (value r)

  fold_from_joined : (kinds : List Kind) → IsKept kinds → (a : ℤ) (x r : Row) (xs : List Row) → key_cmp r.key x.key ≡ Equal → fold_from a (joined kinds x r ∷ xs) ≡ fold_from a (x ∷ (xs ++ r ∷ []))
  fold_from_joined kinds kept a x r xs t =
      let step : fold_from a (joined kinds x r ∷ xs) ≡ fold_from a (x ∷ r ∷ xs) = elim (test x) as (λ b. test x ≡ b → fold_from a (joined kinds x r ∷ xs) ≡ fold_from a (x ∷ r ∷ xs)) [
        | true ↦ λ e.
            rw (kept.both x r t, kept.other x r t, e, kept.combination x r t)
            (ap (λ c. fold (combine_of k) c (map value (filter test xs))) (sym (combine_of-assoc k a (value x) (value r))))
        | false ↦ λ e. rw (kept.both x r t, kept.other x r t, e) refl
      ] refl in
      step ∙ fold_from-append a (x ∷ []) (r ∷ xs) ∙ fold_from_moved (fold_from a (x ∷ [])) r xs ∙ sym (fold_from-append a (x ∷ []) (xs ++ r ∷ []))

  fold_from-add_row : (combines : Bool) (kinds : List Kind) → (combines ≡ true → IsKept kinds) → (a : ℤ) (rows : List Row) (r : Row) → fold_from a (add_row combines kinds rows r) ≡ fold_from a (rows ++ r ∷ [])
  unfolding add_row
  fold_from-add_row combines kinds kept a [] r = refl
  fold_from-add_row combines kinds kept a (x ∷ xs) r =
      let behind : fold_from a (x ∷ add_row combines kinds xs r) ≡ fold_from a (x ∷ (xs ++ r ∷ [])) =
      fold_from-append a (x ∷ []) (add_row combines kinds xs r) ∙ fold_from-add_row combines kinds kept (fold_from a (x ∷ [])) xs r ∙ sym (fold_from-append a (x ∷ []) (xs ++ r ∷ [])) in
      elim (key_cmp r.key x.key) as (λ o. key_cmp r.key x.key ≡ o → fold_from a (match_ordering o (r ∷ x ∷ xs) (if combines then joined kinds x r ∷ xs else (x ∷ add_row combines kinds xs r)) (x ∷ add_row combines kinds xs r)) ≡ fold_from a (x ∷ (xs ++ r ∷ []))) [
        | Less ↦ λ t. fold_from_moved a r (x ∷ xs)
        | Equal ↦ λ t. elim combines as (λ b. combines ≡ b → fold_from a (if b then joined kinds x r ∷ xs else (x ∷ add_row combines kinds xs r)) ≡ fold_from a (x ∷ (xs ++ r ∷ [])))
            [ true ↦ λ e. fold_from_joined kinds (kept e) a x r xs t | false ↦ λ e. behind ] refl
        | Greater ↦ λ t. behind
      ]
      refl

  fold_from-rollup_onto : (combines : Bool) (kinds : List Kind) → (combines ≡ true → IsKept kinds) → (a : ℤ) (rows es : List Row) → fold_from a (rollup_onto combines kinds rows es) ≡ fold_from a (rows ++ es)
  unfolding rollup_onto
  fold_from-rollup_onto combines kinds kept a rows [] = ap (fold_from a) (sym (append-nil rows))
  fold_from-rollup_onto combines kinds kept a rows (e ∷ es) =
      fold_from-rollup_onto combines kinds kept a (add_row combines kinds rows e) es
      ∙ fold_from-append a (add_row combines kinds rows e) es
      ∙ ap (λ c. fold_from c es) (fold_from-add_row combines kinds kept a rows e)
      ∙ sym (fold_from-append a (rows ++ e ∷ []) es)
      ∙ ap (fold_from a) (append_assoc rows (e ∷ []) es)

  -- a fold over a rollup is that over the entries
  pub fold_rows-rollup : (combines : Bool) (kinds : List Kind) → (combines ≡ true → IsKept kinds) → (es : List Row) → fold_rows k value test (rollup combines kinds es) ≡ fold_rows k value test es
  fold_rows-rollup combines kinds kept es = fold_from-rollup_onto combines kinds kept (unit_of k) [] es

-- a reading of the metrics, and a test of the key
pub IsKept-reading : (kinds : List Kind) (k : Kind) (reading : List ℤ → ℤ) (test : Key → Bool) → ((xs ys : List ℤ) → reading (combine_columns kinds xs ys) ≡ combine_of k (reading xs) (reading ys))
    → IsKept k (λ r. reading r.metrics) (λ r. test r.key) kinds
IsKept-reading kinds k reading test h = record {
  other = λ x r t. ap test (same_key r.key x.key t);
  both = λ x r t. refl;
  combination = λ x r t. h x.metrics r.metrics;
}

column-drop : (place : ℕ) (values : List ℤ) → column place (drop 1 values) ≡ column (suc place) values
column-drop place [] = refl
column-drop place (v ∷ values) = refl

column-combine_columns : (kinds : List Kind) (place : ℕ) (kind : Kind) → slice_get kinds place ≡ Some kind → (xs ys : List ℤ) → column place (combine_columns kinds xs ys) ≡ combine_of kind (column place xs) (column place ys)
column-combine_columns [] place kind e xs ys = let h : None ≡ Some kind = e in cc
column-combine_columns (k ∷ kinds) zero kind e xs ys = let same : k ≡ kind = cc in ap (λ j. combine_of j (column 0 xs) (column 0 ys)) same
column-combine_columns (k ∷ kinds) (suc place) kind e xs ys =
    column-combine_columns kinds place kind e (drop 1 xs) (drop 1 ys) ∙ (λ i. combine_of kind (column-drop place xs i) (column-drop place ys i))

-- a query's kind combines as the column that it matches
matched : (query kind : Kind) → matches_column query kind ≡ true → combine_of kind ≡ combine_of query
matched Count Count h = refl
matched Count LongSum h = refl
matched Count LongMin h = cc
matched Count LongMax h = cc
matched LongSum Count h = refl
matched LongSum LongSum h = refl
matched LongSum LongMin h = cc
matched LongSum LongMax h = cc
matched LongMin Count h = cc
matched LongMin LongSum h = cc
matched LongMin LongMin h = refl
matched LongMin LongMax h = cc
matched LongMax Count h = cc
matched LongMax LongSum h = cc
matched LongMax LongMin h = cc
matched LongMax LongMax h = refl

pub column-matched : (kinds : List Kind) (query kind : Kind) (place : ℕ) → slice_get kinds place ≡ Some kind → matches_column query kind ≡ true
    → (xs ys : List ℤ) → column place (combine_columns kinds xs ys) ≡ combine_of query (column place xs) (column place ys)
column-matched kinds query kind place e h xs ys = column-combine_columns kinds place kind e xs ys ∙ (λ i. matched query kind h i (column place xs) (column place ys))

fits_zero : FitsSigned w64 (pos 0)
fits_zero = search arith

pub zeros : (k : Kind) → pos 0 ≡ combine_of k (pos 0) (pos 0)
zeros Count = sym (wrapping_sum-unit (pos 0) fits_zero)
zeros LongSum = sym (wrapping_sum-unit (pos 0) fits_zero)
zeros LongMin = refl
zeros LongMax = refl
