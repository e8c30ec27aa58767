-- A partial result, once all rows are added.
use Rattle.std.proofs.Common.{◌≡◌, ◌∙◌, sym, refl, ap, subst, ℤ, pos, true, false, true≢false, cond, List, [], ◌∷◌, map, length, Option, None, Some, IfSome, unwrap_or, is_some, slice_get, ℕ, zero, suc, if◌then◌else◌, arith, inl}
use Rattle.std.proofs.lemmas.Int.{ints}
use Rattle.std.proofs.lemmas.List.Folds.{flat_map-map}
use Rattle.std.specs.List.{All, AllByRecursion, IsDistinct, flat_map}
use Rattle.dr_base.specs.declared.key.Key.{Key}
use Rattle.dr_base.specs.declared.row.Row.{Row}
use Rattle.dr_base.specs.declared.event.Event.{Event}
use Rattle.std.specs.Ordering.{is_eq}
use Rattle.dr_time.specs.Instant.{IsInstant}
use Rattle.dr_time.specs.Printed.{IsPrintable}
use Rattle.dr_time.specs.Union.{union_start}
use Rattle.dr_gran.specs.Step.{is_all}
use Rattle.dr_gran.specs.Truncation.{truncation}
use Rattle.dr_gran.proofs.TruncationLemmas.{truncation_bounds}
use Rattle.dr_intervals.specs.Printable.{StartsPrintable}
use Rattle.dr_intervals.proofs.PrintableIntervals.{union_start-printable}
use Rattle.dr_agg.specs.declared.kind.Kind.{Kind}
use Rattle.dr_agg.specs.Rollup.{rows_at, rollup_onto, add_row}
use Rattle.dr_agg.proofs.KeyOrder.{itself}
use Rattle.dr_agg.proofs.RollupLaws.{IsRollup-rollup, AllByRecursion-add_row}
use Rattle.dr_schema.specs.declared.schema.Schema.{Schema}
use Rattle.dr_schema.specs.Fits.{FitsSchema}
use Rattle.dr_rollup.specs.Entries.{same_keys, NoneHas}
use Rattle.dr_rollup.specs.Unrolled.{unrolled}
use Rattle.dr_rollup.proofs.Rows.{rows-counted, same_keys-comm}
use Rattle.dr_ask.specs.Asked.{Asked}
use Rattle.dr_answers.specs.Groups.{bucket}
use Rattle.dr_answers.specs.Selection.{selects, selected}
use Rattle.dr_partial.specs.Grouped.{IsSound, AddsAll, in_order, with_rows}
use Rattle.dr_partial.specs.Partial.{kinds_in, alone, partial, values_at}
use Rattle.dr_partial.proofs.Groups.{first_metrics, values-first}
use Rattle.dr_rollup.proofs.Adding.{no_keys}

-- ---- from no group on

pub nothing-sound : (kinds : List Kind) (groups : List Row) → groups ≡ [] → IsSound kinds groups
nothing-sound kinds groups none = subst (IsSound kinds) (sym none) (record { fits = tt; apart = no_keys })

pub made : (q : Asked) (groups rows after : List Row) → groups ≡ [] → AddsAll q groups rows after → in_order after ≡ partial q rows
unfolding rollup_onto
made q groups rows after none adds = adds.groups ∙ ap (λ l. with_rows q (in_order l) rows) none

-- pieces that are seen one by one
pub pieces-of : {X : Type 0} (v : X → List Row) (xs : List X) → flat_map (λ rows. rows) (map v xs) ≡ flat_map v xs
pieces-of v xs = flat_map-map (λ rows. rows) v xs

-- ---- the starts of the buckets

or_zero : (o : Option ℤ) → IfSome o IsPrintable → IsPrintable (unwrap_or o (pos 0))
or_zero None p = inl (omega (arith, ints), omega (arith, ints))
or_zero (Some t) p = p

module _ (q : Asked) (starts : All StartsPrintable q.intervals) where
  printable-bucket : (t : ℤ) → IsInstant t → IsPrintable (bucket q t)
  printable-bucket t instant =
      elim (is_all q.granularity) as (λ b. IsPrintable (unwrap_or (if b then union_start q.intervals else Some (truncation q.granularity t)) (pos 0))) [
        | true ↦ or_zero (union_start q.intervals) (union_start-printable q.intervals starts)
        | false ↦ (let bounds = truncation_bounds q.granularity t (truncation q.granularity t) instant refl in inl (bounds.0, omega (arith, ints, bounds.1, instant.1)))
      ]

  printable-alone : (rows : List Row) → AllByRecursion (λ r. IsInstant r.key.time) rows → AllByRecursion (λ g. IsPrintable g.key.time) (map (alone q) (selected q rows))
  printable-alone [] all = tt
  printable-alone (r ∷ rows) all =
      elim (selects q r.key) as (λ b. AllByRecursion (λ g. IsPrintable g.key.time) (map (alone q) (cond b (r ∷ selected q rows) (selected q rows))))
      [ true ↦ (printable-bucket r.key.time all.0, printable-alone rows all.1) | false ↦ printable-alone rows all.1 ]

  onto : (kinds : List Kind) (groups es : List Row) → AllByRecursion (λ g. IsPrintable g.key.time) groups → AllByRecursion (λ g. IsPrintable g.key.time) es → AllByRecursion (λ g. IsPrintable g.key.time) (rollup_onto true kinds groups es)
  unfolding rollup_onto
  onto kinds groups [] all each = all
  onto kinds groups (e ∷ es) all each = onto kinds (add_row true kinds groups e) es (AllByRecursion-add_row true kinds (λ k. IsPrintable k.time) groups e all each.0) each.1

  pub printable-partial : (rows : List Row) → AllByRecursion (λ r. IsInstant r.key.time) rows → AllByRecursion (λ g. IsPrintable g.key.time) (partial q rows)
  printable-partial rows all = onto (kinds_in q.aggregations) [] (map (alone q) (selected q rows)) tt (printable-alone rows all)

  -- those of more rows, added to groups whose buckets start so
  pub printable-added : (before after x rows : List Row) → in_order before ≡ x → AllByRecursion (λ g. IsPrintable g.key.time) x → AllByRecursion (λ r. IsInstant r.key.time) rows → AddsAll q before rows after
      → AllByRecursion (λ g. IsPrintable g.key.time) (in_order after)
  printable-added before after x rows is all instants adds =
      subst (AllByRecursion (λ (g : Row). IsPrintable g.key.time)) (sym adds.groups)
      (onto (kinds_in q.aggregations) (in_order before) (map (alone q) (selected q rows)) (subst (AllByRecursion (λ (g : Row). IsPrintable g.key.time)) (sym is) all) (printable-alone rows instants))

-- the truncated times of events are instants
pub instants : (s : Schema) (events : List Event) → AllByRecursion (FitsSchema s) events → AllByRecursion (λ r. IsInstant r.key.time) (map (unrolled s) events)
instants s [] all = tt
instants s (e ∷ events) all = (one, instants s events all.1)
  where
    one : IsInstant (truncation s.query_granularity e.time)
    one =
        let fits : FitsSchema s e = all.0 in
        let bounds = truncation_bounds s.query_granularity e.time (truncation s.query_granularity e.time) fits.time refl in
        let last = fits.time.1 in
        (bounds.0, omega (arith, ints, bounds.1, last))

-- ---- what is found of the groups

pub counted : (groups : List Row) → length (in_order groups) ≡ length groups
counted groups = rows-counted false [] groups (λ h. absurd (true≢false (sym h)))

-- the group at a place is the only one of its key
only-there : (k : Key) (groups : List Row) (place : ℕ) (g : Row) → IsDistinct same_keys (map (λ r. r.key) groups) → slice_get groups place ≡ Some g → g.key ≡ k → first_metrics (rows_at k groups) ≡ Some g.metrics
unfolding IsDistinct
only-there k [] place g apart at is = absurd (true≢false (sym (ap is_some at)))
only-there k (r ∷ groups) zero g apart at is =
    let here : r ≡ g = ap (λ o. unwrap_or o r) at in
    ap (λ t. first_metrics (cond t (r ∷ rows_at k groups) (rows_at k groups))) (ap (same_keys k) (ap (λ (x : Row). x.key) here ∙ is) ∙ ap is_eq (itself k)) ∙ ap (λ (x : Row). Some x.metrics) here
only-there k (r ∷ groups) (suc place) g apart at is =
    let other : same_keys k r.key ≡ false = same_keys-comm k r.key ∙ ap (same_keys r.key) (sym is) ∙ differs groups place apart.0 at in
    ap (λ t. first_metrics (cond t (r ∷ rows_at k groups) (rows_at k groups))) other ∙ only-there k groups place g apart.1 at is
  where
    differs : (rest : List Row) (p : ℕ) → AllByRecursion (λ j. same_keys r.key j ≡ false) (map (λ x. x.key) rest) → slice_get rest p ≡ Some g → same_keys r.key g.key ≡ false
    differs [] p all there = absurd (true≢false (sym (ap is_some there)))
    differs (x ∷ rest) zero all there = ap (λ o. same_keys r.key (unwrap_or o g).key) (sym there) ∙ all.0
    differs (x ∷ rest) (suc p) all there = differs rest p all.1 there

none-there : (k : Key) (groups : List Row) → NoneHas k groups → first_metrics (rows_at k groups) ≡ None
none-there k [] none = refl
none-there k (r ∷ groups) none = ap (λ t. first_metrics (cond t (r ∷ rows_at k groups) (rows_at k groups))) none.0 ∙ none-there k groups none.1

-- what is found of a bucket in the order of the keys
first-found : (b : ℤ) (groups : List Row) → first_metrics (rows_at (record { time = b; dims = [] }) groups) ≡ values_at b (in_order groups)
first-found b groups = ap first_metrics (sym ((IsRollup-rollup false [] groups).each (record { time = b; dims = [] }))) ∙ sym (values-first b (in_order groups))

pub found-values : (b : ℤ) (groups : List Row) (place : ℕ) (g : Row) → IsDistinct same_keys (map (λ r. r.key) groups) → slice_get groups place ≡ Some g → g.key ≡ record { time = b; dims = [] } → Some g.metrics ≡ values_at b (in_order groups)
found-values b groups place g apart at is = sym (only-there (record { time = b; dims = [] }) groups place g apart at is) ∙ first-found b groups

pub no-values : (b : ℤ) (groups : List Row) → NoneHas (record { time = b; dims = [] }) groups → None ≡ values_at b (in_order groups)
no-values b groups none = sym (none-there (record { time = b; dims = [] }) groups none) ∙ first-found b groups
