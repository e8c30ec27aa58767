-- Rows in the order of arrival with one more event.
use Rattle.std.proofs.Common.{◌≡◌, ◌∙◌, sym, refl, ap, subst, ℕ, zero, suc, ◌<◌, ◌≤◌, ℤ, Bool, true, false, List, [], ◌∷◌, ◌++◌, map, length, take, drop, slice_get, slice_set, Some, is_some, unwrap_or, arith, true≢false}
use Rattle.std.proofs.lemmas.List.{map-append}
use Rattle.std.specs.List.{AllByRecursion, IsDistinct}
use Rattle.dr_base.specs.declared.key.Key.{Key}
use Rattle.dr_base.specs.declared.row.Row.{Row}
use Rattle.dr_agg.specs.declared.kind.Kind.{Kind}
use Rattle.dr_agg.specs.Combination.{combine_columns, FitsColumns}
use Rattle.dr_agg.specs.Rollup.{add_row, rollup}
use Rattle.dr_agg.proofs.ColumnLaws.{length-combine_columns}
use Rattle.dr_agg.proofs.RollupLaws.{rollup_onto_push}
use Rattle.dr_rollup.specs.Entries.{same_keys, with_metrics, NoneHas}
use Rattle.dr_rollup.specs.Sound.{IsSound}
use Rattle.dr_rollup.proofs.Rows.{rollup-joined, same_keys-comm, rows-counted}

-- ---- lists

module _ {X : Type 0} (P : X → Type 0) where
  all_pushed : (xs : List X) (x : X) → AllByRecursion P xs → P x → AllByRecursion P (xs ++ x ∷ [])
  all_pushed [] x all one = (one, tt)
  all_pushed (y ∷ xs) x all one = (all.0, all_pushed xs x all.1 one)

  all_set : (xs : List X) (i : ℕ) (x : X) → AllByRecursion P xs → P x → AllByRecursion P (slice_set xs i x)
  all_set [] i x all one = tt
  all_set (y ∷ xs) zero x all one = (one, all.1)
  all_set (y ∷ xs) (suc i) x all one = (all.0, all_set xs i x all.1 one)

pub length_set : {X : Type 0} (xs : List X) (i : ℕ) (x : X) → length (slice_set xs i x) ≡ length xs
length_set [] i x = refl
length_set (y ∷ xs) zero x = refl
length_set (y ∷ xs) (suc i) x = ap suc (length_set xs i x)

pub length_pushed : {X : Type 0} (xs : List X) (x : X) → length (xs ++ x ∷ []) ≡ suc (length xs)
length_pushed [] x = refl
length_pushed (y ∷ xs) x = ap suc (length_pushed xs x)

-- a list with one member replaced, and as it was
replaced : {X : Type 0} (xs : List X) (i : ℕ) (x y : X) → slice_get xs i ≡ Some x → (xs ≡ take i xs ++ x ∷ drop (suc i) xs) × (slice_set xs i y ≡ take i xs ++ y ∷ drop (suc i) xs)
replaced [] i x y at = absurd (true≢false (sym (ap is_some at)))
replaced (z ∷ xs) zero x y at = (ap (λ o. unwrap_or o x ∷ xs) at, refl)
replaced (z ∷ xs) (suc i) x y at = let r = replaced xs i x y at in (ap (λ l. z ∷ l) r.0, ap (λ l. z ∷ l) r.1)

-- a row keeps its key where its metrics change
pub keys_set : (xs : List Row) (j : ℕ) (row : Row) (m : List ℤ) → slice_get xs j ≡ Some row → map (λ r. r.key) (slice_set xs j (record { key = row.key; metrics = m })) ≡ map (λ r. r.key) xs
keys_set [] j row m h = refl
keys_set (x ∷ xs) zero row m h = ap (λ o. (unwrap_or o row).key ∷ map (λ r. r.key) xs) (sym h)
keys_set (x ∷ xs) (suc j) row m h = ap (λ l. x.key ∷ l) (keys_set xs j row m h)

-- other metrics in the place of those of a row
pub set-with : (xs : List Row) (j : ℕ) (row : Row) (m : List ℤ) → slice_get xs j ≡ Some row → slice_set xs j (record { key = row.key; metrics = m }) ≡ with_metrics xs j m
unfolding with_metrics
set-with [] j row m h = refl
set-with (x ∷ xs) zero row m h = ap (λ o. record { key = (unwrap_or o row).key; metrics = m } ∷ xs) (sym h)
set-with (x ∷ xs) (suc j) row m h = ap (λ l. x ∷ l) (set-with xs j row m h)

-- ---- a row that is there

module _ (kinds : List Kind) (limit : ℕ) (combines : Bool) (rows : List Row) (i : ℕ) (row : Row) (m : List ℤ) (so : IsSound kinds limit combines rows) (at : slice_get rows i ≡ Some row) where
  abbrev pub with_more : Row
  with_more = record { key = row.key; metrics = combine_columns kinds row.metrics m }

  pub sound-combined : IsSound kinds limit combines (slice_set rows i with_more)
  sound-combined = record {
    fits = all_set (λ r. FitsColumns kinds r.metrics) rows i with_more so.fits (length-combine_columns kinds row.metrics m);
    within = subst (λ n. n ≤ limit) (sym (length_set rows i with_more)) so.within;
    apart = λ c. subst (IsDistinct same_keys) (sym (keys_set rows i row (combine_columns kinds row.metrics m) at)) (so.apart c);
  }

  pub rows-combined : combines ≡ true → rollup combines kinds (slice_set rows i with_more) ≡ add_row combines kinds (rollup combines kinds rows) (record { key = row.key; metrics = m })
  rows-combined on =
      let r = replaced rows i row with_more at in
      let joined : rollup true kinds (slice_set rows i with_more) ≡ add_row true kinds (rollup true kinds rows) (record { key = row.key; metrics = m }) =
      ap (rollup true kinds) r.1
      ∙ rollup-joined kinds (take i rows) row (drop (suc i) rows) m
      ∙ ap (λ l. add_row true kinds (rollup true kinds l) (record { key = row.key; metrics = m })) (sym r.0) in
      subst (λ b. rollup b kinds (slice_set rows i with_more) ≡ add_row b kinds (rollup b kinds rows) (record { key = row.key; metrics = m })) (sym on) joined

-- ---- a new row

apart_pushed : (ks : List Key) (k : Key) → IsDistinct same_keys ks → AllByRecursion (λ j. same_keys k j ≡ false) ks → IsDistinct same_keys (ks ++ k ∷ [])
unfolding IsDistinct
apart_pushed [] k d new = (tt, tt)
apart_pushed (j ∷ ks) k d new = (all_pushed (λ y. same_keys j y ≡ false) ks k d.0 (same_keys-comm j k ∙ new.0), apart_pushed ks k d.1 new.1)

keys_of_rows : (k : Key) (rows : List Row) → NoneHas k rows → AllByRecursion (λ j. same_keys k j ≡ false) (map (λ r. r.key) rows)
keys_of_rows k [] all = tt
keys_of_rows k (r ∷ rows) all = (all.0, keys_of_rows k rows all.1)

-- rows of different keys, and a row of another one behind them
pub keys-apart : (rows : List Row) (row : Row) → IsDistinct same_keys (map (λ r. r.key) rows) → NoneHas row.key rows → IsDistinct same_keys (map (λ r. r.key) (rows ++ row ∷ []))
keys-apart rows row apart none =
    subst (IsDistinct same_keys) (sym (map-append (λ (r : Row). r.key) rows (row ∷ [])))
    (apart_pushed (map (λ r. r.key) rows) row.key apart (keys_of_rows row.key rows none))

module _ (kinds : List Kind) (limit : ℕ) (combines : Bool) (rows : List Row) (row : Row) (so : IsSound kinds limit combines rows) (new : combines ≡ true → NoneHas row.key rows) where
  pub rows-added : rollup combines kinds (rows ++ row ∷ []) ≡ add_row combines kinds (rollup combines kinds rows) row
  rows-added = rollup_onto_push combines kinds [] rows row

  apart_with : combines ≡ true → IsDistinct same_keys (map (λ r. r.key) (rows ++ row ∷ []))
  apart_with c = keys-apart rows row (so.apart c) (new c)

  pub sound-added : length rows < limit → FitsColumns kinds row.metrics → IsSound kinds limit combines (rows ++ row ∷ [])
  sound-added lt fits = record {
    fits = all_pushed (λ r. FitsColumns kinds r.metrics) rows row so.fits fits;
    within = omega (arith, lt, length_pushed rows row);
    apart = apart_with;
  }

  -- one more row than there were
  pub count-added : length (add_row combines kinds (rollup combines kinds rows) row) ≡ suc (length rows)
  count-added = ap length (sym rows-added) ∙ rows-counted combines kinds (rows ++ row ∷ []) apart_with ∙ length_pushed rows row
