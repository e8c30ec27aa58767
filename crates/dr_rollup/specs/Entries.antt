-- Rows in the order in which they came, and the row of a key.
use Rattle.std.specs.Prelude.{◌≡◌, ℕ, zero, suc, ℤ, Bool, false, List, [], ◌∷◌, Some, slice_get, slice_set}
use Rattle.std.specs.List.{AllByRecursion}
use Rattle.std.specs.Ordering.{eq_by_cmp}
use Rattle.dr_base.specs.declared.key.Key.{Key}
use Rattle.dr_base.specs.declared.row.Row.{Row}
use Rattle.dr_base.specs.Order.{key_cmp}
use Rattle.dr_agg.specs.declared.kind.Kind.{Kind}
use Rattle.dr_agg.specs.Combination.{combine_columns}
use Rattle.dr_rollup.specs.Unrolled.{contributions}

-- the keys are the same
abbrev pub same_keys : Key → Key → Bool
same_keys = eq_by_cmp key_cmp

-- the row at a place has that key
abbrev pub HasKeyAt : Key → List Row → ℕ → Type 0
HasKeyAt k rows place = (row : Row) × (slice_get rows place ≡ Some row) × (row.key ≡ k)

-- no row has that key
abbrev pub NoneHas : Key → List Row → Type 0
NoneHas k rows = AllByRecursion (λ row. same_keys k row.key ≡ false) rows

-- the row at a place with what an event adds
abbrev pub combined_row : List Kind → List ℤ → Row → Row
combined_row kinds inputs row = record { key = row.key; metrics = combine_columns kinds row.metrics (contributions kinds inputs) }

-- what an event adds is combined into the row at a place
abbrev pub Combines : List Kind → List ℤ → List Row → ℕ → List Row → Type 0
Combines kinds inputs before place after = (row : Row) → slice_get before place ≡ Some row → after ≡ slice_set before place (combined_row kinds inputs row)

-- the rows with other metrics at a place
unfoldable pub with_metrics : List Row → ℕ → List ℤ → List Row
with_metrics [] place metrics = []
with_metrics (row ∷ rows) zero metrics = record { key = row.key; metrics = metrics } ∷ rows
with_metrics (row ∷ rows) (suc place) metrics = row ∷ with_metrics rows place metrics
