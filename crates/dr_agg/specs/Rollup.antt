-- Rollup (Apache Druid documentation, ingestion: rollup): rows of one key, which is a truncated time with the dimension
-- values, become one row, each metric column combined by its kind. The flag `combines` says whether they do: where rollup
-- is off, the rows of a key stay apart, in the order in which they came. Either way rows stand in the order of their keys.
use Rattle.std.specs.Prelude.{◌≡◌, Bool, true, false, ℤ, List, [], ◌∷◌, map, if◌then◌else◌}
use Rattle.std.specs.List.{filter, flat_map, AllByRecursion}
use Rattle.std.specs.Ordering.{is_lt, eq_by_cmp, match_ordering}
use Rattle.std.specs.declared.cmp.Ordering.TheVariants.{Less}
use Rattle.dr_base.specs.declared.key.Key.{Key}
use Rattle.dr_base.specs.declared.row.Row.{Row}
use Rattle.dr_base.specs.Order.{key_cmp}
use Rattle.dr_agg.specs.declared.kind.Kind.{Kind}
use Rattle.dr_agg.specs.Combination.{combine_columns, fold_of, FitsColumns}

-- the rows of a key, in order
abbrev pub rows_at : Key → List Row → List Row
rows_at q rows = filter (λ r. eq_by_cmp key_cmp q r.key) rows

-- metrics, combined with those of rows one by one
abbrev pub combined : List Kind → List ℤ → List Row → List ℤ
combined kinds metrics [] = metrics
combined kinds metrics (r ∷ rs) = combined kinds (combine_columns kinds metrics r.metrics) rs

-- what rows of one key become: one row, or these rows
abbrev pub together : (combines : Bool) → List Kind → List Row → List Row
together true kinds [] = []
together true kinds (r ∷ rs) = record { key = r.key; metrics = combined kinds r.metrics rs } ∷ []
together false kinds rs = rs

-- no later row has a smaller key
abbrev pub IsInOrder : List Row → Type 0
IsInOrder [] = Unit {0}
IsInOrder (r ∷ rs) = AllByRecursion (λ x. is_lt (key_cmp x.key r.key) ≡ false) rs × IsInOrder rs

-- each later row has a greater key
abbrev pub IsRising : List Row → Type 0
IsRising [] = Unit {0}
IsRising (r ∷ rs) = AllByRecursion (λ x. key_cmp r.key x.key ≡ Less) rs × IsRising rs

-- the rows are the rollup of the entries
pub record IsRollup (combines : Bool) (kinds : List Kind) (es rows : List Row) : Type 0 where
  pub ordered : IsInOrder rows
  pub each : (q : Key) → rows_at q rows ≡ together combines kinds (rows_at q es)

-- a row, with the metrics of another combined into it
abbrev pub joined : List Kind → Row → Row → Row
joined kinds x r = record { key = x.key; metrics = combine_columns kinds x.metrics r.metrics }

-- rows with one more: combined into the row of its key, or put behind the rows of its key
unfoldable pub add_row : (combines : Bool) → List Kind → List Row → Row → List Row
add_row combines kinds [] r = r ∷ []
add_row combines kinds (x ∷ xs) r =
    match_ordering (key_cmp r.key x.key) (r ∷ x ∷ xs) (if combines then joined kinds x r ∷ xs else (x ∷ add_row combines kinds xs r)) (x ∷ add_row combines kinds xs r)

-- rows with entries added one by one
unfoldable pub rollup_onto : (combines : Bool) → List Kind → List Row → List Row → List Row
rollup_onto combines kinds rows [] = rows
rollup_onto combines kinds rows (e ∷ es) = rollup_onto combines kinds (add_row combines kinds rows e) es

-- the rollup of entries
abbrev pub rollup : (combines : Bool) → List Kind → List Row → List Row
rollup combines kinds es = rollup_onto combines kinds [] es

-- lists of rows, one after another
abbrev pub all_rows : List (List Row) → List Row
all_rows lists = flat_map (λ rows. rows) lists

-- the rollup of the rows of several lists
abbrev pub join : (combines : Bool) → List Kind → List (List Row) → List Row
join combines kinds lists = rollup combines kinds (all_rows lists)

-- each row has as many metrics as there are columns
abbrev pub AllFit : List Kind → List Row → Type 0
AllFit kinds rows = AllByRecursion (λ r. FitsColumns kinds r.metrics) rows

-- a value of each row that passes a test, the values combined one by one from the unit on
abbrev pub fold_rows : Kind → (Row → ℤ) → (Row → Bool) → List Row → ℤ
fold_rows kind value test rows = fold_of kind (map value (filter test rows))
