-- The groups of rows while more rows are added, in the order in which they came. No public contract cites this file.
use Rattle.std.specs.Prelude.{◌≡◌, ℕ, ℤ, pos, true, false, List, [], ◌∷◌, Some, map, slice_get, slice_set}
use Rattle.std.specs.List.{IsDistinct}
use Rattle.dr_base.specs.declared.row.Row.{Row}
use Rattle.dr_agg.specs.declared.kind.Kind.{Kind}
use Rattle.dr_agg.specs.Combination.{combine_columns}
use Rattle.dr_agg.specs.Rollup.{rollup, rollup_onto, add_row, AllFit}
use Rattle.dr_rollup.specs.Entries.{same_keys}
use Rattle.dr_ask.specs.declared.aggregation.Aggregation.{Aggregation}
use Rattle.dr_ask.specs.Asked.{Asked}
use Rattle.dr_answers.specs.Fold.{folds}
use Rattle.dr_answers.specs.Selection.{selected}
use Rattle.dr_partial.specs.Partial.{kinds_in, alone}

-- a row of these metrics; its key doesn't matter
abbrev pub bare : List ℤ → Row
bare metrics = record { key = record { time = pos 0; dims = [] }; metrics = metrics }

-- what aggregations fold to over a row of these metrics alone
abbrev pub folds_alone : List Aggregation → List ℤ → List ℤ
folds_alone aggregations metrics = folds aggregations (bare metrics ∷ [])

-- the groups in the order of their keys
abbrev pub in_order : List Row → List Row
in_order groups = rollup false [] groups

-- each has a value for each aggregation, and no two have the same key
pub record IsSound (kinds : List Kind) (groups : List Row) : Type 0 where
  pub fits : AllFit kinds groups
  pub apart : IsDistinct same_keys (map (λ g. g.key) groups)

-- values are combined into those of the group at a place
abbrev pub CombinesAt : List Kind → List ℤ → List Row → ℕ → List Row → Type 0
CombinesAt kinds values before place after =
    (g : Row) → slice_get before place ≡ Some g → after ≡ slice_set before place (record { key = g.key; metrics = combine_columns kinds g.metrics values })

-- a group of one row is added
pub record Adds (kinds : List Kind) (before : List Row) (g : Row) (after : List Row) : Type 0 where
  pub sound : IsSound kinds after
  pub groups : in_order after ≡ add_row true kinds (in_order before) g

-- some groups are added, one by one
pub record AddsEach (kinds : List Kind) (before gs after : List Row) : Type 0 where
  pub sound : IsSound kinds after
  pub groups : in_order after ≡ rollup_onto true kinds (in_order before) gs

-- groups with those of more rows
abbrev pub with_rows : Asked → List Row → List Row → List Row
with_rows q groups rows = rollup_onto true (kinds_in q.aggregations) groups (map (alone q) (selected q rows))

-- rows are added
pub record AddsAll (q : Asked) (before rows after : List Row) : Type 0 where
  pub sound : IsSound (kinds_in q.aggregations) after
  pub groups : in_order after ≡ with_rows q (in_order before) rows
