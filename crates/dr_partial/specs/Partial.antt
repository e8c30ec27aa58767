-- The groups of a query put together row by row: each selected row is a group of its own at first, and groups of one bucket
-- and the same dimension values are combined (Apache Druid documentation, timeseries and groupBy queries).
use Rattle.std.specs.Prelude.{◌≡◌, ℤ, List, [], ◌∷◌, true, Option, Some, None, unwrap_or, map, if◌then◌else◌}
use Rattle.dr_base.specs.declared.row.Row.{Row}
use Rattle.dr_agg.specs.declared.kind.Kind.{Kind}
use Rattle.dr_agg.specs.Rollup.{rollup}
use Rattle.dr_ask.specs.declared.aggregation.Aggregation.{Aggregation}
use Rattle.dr_ask.specs.Asked.{Asked, AskedShape, timeseries, group_by, scan, dimensions_by}
use Rattle.dr_answers.specs.declared.result_row.ResultRow.{ResultRow}
use Rattle.dr_answers.specs.Fold.{folds}
use Rattle.dr_answers.specs.Groups.{group_of, is_same_group, filled_in}
use Rattle.dr_answers.specs.Selection.{selected}

-- how each aggregation combines
abbrev pub kinds_in : List Aggregation → List Kind
kinds_in aggregations = map (λ a. a.kind) aggregations

-- the group of a row alone, with its folds
abbrev pub alone : Asked → Row → Row
alone q r = record { key = group_of q (dimensions_by q.shape) r.key; metrics = folds q.aggregations (r ∷ []) }

-- the groups of the selected rows with their folds, one for each bucket and its dimension values, in the order of these
abbrev pub partial : Asked → List Row → List Row
partial q rows = rollup true (kinds_in q.aggregations) (map (alone q) (selected q rows))

-- groups that are those of a query over some rows
abbrev pub IsPartial : Asked → List Row → Type 0
IsPartial q groups = (rows : List Row) × (groups ≡ partial q rows)

-- ---- the groups of a query, from these and the span of all rows

abbrev pub result_row : Row → ResultRow
result_row g = record { time = g.key.time; dims = g.key.dims; values = g.metrics }

-- the folds of the group of a bucket that has no dimension values
abbrev pub values_at : ℤ → List Row → Option (List ℤ)
values_at b [] = None
values_at b (g ∷ gs) = if is_same_group (record { time = b; dims = [] }) g.key then Some g.metrics else values_at b gs

-- a bucket with its folds, which are those of no row where no row lies in it
abbrev pub filled_row : Asked → List Row → ℤ → ResultRow
filled_row q partial b = record { time = b; dims = []; values = unwrap_or (values_at b partial) (folds q.aggregations []) }

abbrev pub groups_by : AskedShape → Asked → Option (ℤ × ℤ) → List Row → List ResultRow
groups_by (timeseries t) q span partial = if t.skips_empty_buckets then map result_row partial else map (filled_row q partial) (filled_in q span)
groups_by (group_by g) q span partial = map result_row partial
groups_by (scan s) q span partial = []

abbrev pub groups_from : Asked → Option (ℤ × ℤ) → List Row → List ResultRow
groups_from q span partial = groups_by q.shape q span partial
