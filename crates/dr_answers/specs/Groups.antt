-- The groups of a query over rows (Apache Druid documentation, timeseries and groupBy queries). Which buckets of a timeseries
-- there are beside those that hold rows is this project's own rule.
use Rattle.std.specs.Prelude.{ℕ, suc, ℤ, pos, Bool, List, [], ◌∷◌, Option, Some, None, unwrap_or, filter, map, if◌then◌else◌}
use Rattle.std.specs.List.{fold}
use Rattle.std.specs.Ordering.{int_eq, match_ordering}
use Rattle.std.specs.Cmp.Lexicographic.{pointwise}
use Rattle.std.specs.Prelude.{◌&&◌, bytes_eq}
use Rattle.dr_base.specs.declared.key.Key.{Key}
use Rattle.dr_base.specs.declared.row.Row.{Row}
use Rattle.dr_base.specs.Order.{key_cmp}
use Rattle.dr_predicate.specs.Match.{value_at}
use Rattle.dr_gran.specs.Buckets as gran
use Rattle.dr_ask.specs.declared.dimension.Dimension.{Dimension}
use Rattle.dr_ask.specs.Asked.{Asked, AskedShape, timeseries, group_by, scan, dimensions_by}
use Rattle.dr_answers.specs.declared.result_row.ResultRow.{ResultRow}
use Rattle.dr_answers.specs.Fold.{folds}
use Rattle.dr_answers.specs.Selection.{selected}
use Rattle.dr_answers.specs.Span.{span}

-- how many groups an answer may have
abbrev pub max_groups : ℕ
max_groups = 100_000

-- the start of the bucket of a time: that of all times starts where the union does
abbrev pub bucket : Asked → ℤ → ℤ
bucket q t = unwrap_or (gran.bucket q.granularity q.intervals t) (pos 0)

-- the values by which a row is grouped: those of the query's dimensions
abbrev pub grouped_values : List Dimension → List (List ℕ) → List (List ℕ)
grouped_values dimensions dims = map (λ d. value_at d.place dims) dimensions

-- the group of a row: its bucket, and these values
abbrev pub group_of : Asked → List Dimension → Key → Key
group_of q dimensions k = record { time = bucket q k.time; dims = grouped_values dimensions k.dims }

abbrev pub is_same_group : Key → Key → Bool
is_same_group a b = int_eq a.time b.time && pointwise bytes_eq a.dims b.dims

-- one more group among some in their order, where it isn't among them
abbrev pub with_group : List Key → Key → List Key
with_group [] g = g ∷ []
with_group (h ∷ hs) g = match_ordering (key_cmp g h) (g ∷ h ∷ hs) (h ∷ hs) (h ∷ with_group hs g)

-- each group that a row has, once, by bucket and then by its values
abbrev pub groups_of : Asked → List Dimension → List Row → List Key
groups_of q dimensions rows = fold with_group [] (map (λ r. group_of q dimensions r.key) rows)

-- the starts of the buckets that hold a millisecond both of the union and of the span, rising; of too many the first, one more
-- than an answer may have
abbrev pub filled_in : Asked → Option (ℤ × ℤ) → List ℤ
filled_in q None = []
filled_in q (Some span) = gran.buckets_of (suc max_groups) q.granularity q.intervals span.0 span.1

abbrev pub filled : Asked → List Row → List Key
filled q rows = map (λ b. record { time = b; dims = [] }) (filled_in q (span rows))

-- a timeseries has each filled bucket, or only those with a selected row; a groupBy has each group of a selected row; a scan has
-- none
abbrev pub keys_by : AskedShape → Asked → List Row → List Key
keys_by (timeseries t) q rows = if t.skips_empty_buckets then groups_of q [] (selected q rows) else filled q rows
keys_by (group_by g) q rows = groups_of q g.dimensions (selected q rows)
keys_by (scan s) q rows = []

-- a group with the folds of its selected rows
abbrev pub group : Asked → List Row → Key → ResultRow
group q rows g = record { time = g.time; dims = g.dims; values = folds q.aggregations (filter (λ r. is_same_group (group_of q (dimensions_by q.shape) r.key) g) (selected q rows)) }

-- by bucket, and then by the dimensions
abbrev pub groups : Asked → List Row → List ResultRow
groups q rows = map (group q rows) (keys_by q.shape q rows)
