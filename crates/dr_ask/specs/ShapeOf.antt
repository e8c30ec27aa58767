-- What a query asks by its type: a timeseries and a groupBy here, with their fields in the order of their table (Apache Druid
-- documentation, timeseries and groupBy queries), and a scan.
use Rattle.std.specs.Prelude.{ℕ, List, [], ◌∷◌, Option, Some, None, Result, Ok, codes}
use Rattle.serde_json.specs.Data.{Data, Members}
use Rattle.dr_base.specs.Fields.{field}
use Rattle.dr_base.specs.Reading.{◌>>=◌, passed}
use Rattle.dr_having.specs.Condition as having
use Rattle.dr_having.specs.HavingOf.{having_of}
use Rattle.dr_order.specs.LimitSpecOf.{limit_spec_of}
use Rattle.dr_schema.specs.declared.schema.Schema.{Schema}
use Rattle.dr_ask.specs.declared.aggregation.Aggregation.{Aggregation}
use Rattle.dr_ask.specs.declared.query_error.QueryError.{QueryError}
use Rattle.dr_ask.specs.declared.query_error.QueryError.TheVariants.{Having, Order}
use Rattle.dr_ask.specs.declared.query_type.QueryType.{QueryType}
use Rattle.dr_ask.specs.declared.query_type.QueryType.TheVariants as type
use Rattle.dr_ask.specs.declared.timeseries.Timeseries.{Timeseries}
use Rattle.dr_ask.specs.Asked.{AskedGroups, AskedShape, timeseries, group_by, scan}
use Rattle.dr_ask.specs.ContextOf.{context_of}
use Rattle.dr_ask.specs.DimensionsOf.{dimensions_of}
use Rattle.dr_ask.specs.Fields.{truth_or_false, limit_or_none, no_unlisted}
use Rattle.dr_ask.specs.Outputs.{aggregation_names, dimension_names, distinct_from, distinct_outputs}
use Rattle.dr_ask.specs.ScanOf.{scan_of}

abbrev pub timeseries_keys : List (List ℕ)
timeseries_keys = codes "queryType" ∷ codes "dataSource" ∷ codes "intervals" ∷ codes "granularity" ∷ codes "filter" ∷ codes "aggregations" ∷ codes "descending" ∷ codes "limit" ∷ codes "context" ∷ []

-- of type `timeseries`
unfoldable pub timeseries_of : List Aggregation → Data → Members → Result Timeseries QueryError
timeseries_of aggregations d ms = do
  outputs ← distinct_from [] (aggregation_names aggregations)
  descending ← truth_or_false (codes "descending") (field (codes "descending") d)
  limit ← limit_or_none (codes "limit") (field (codes "limit") d)
  skips ← context_of (field (codes "context") d)
  unlisted ← no_unlisted timeseries_keys ms
  Ok (record { descending = descending; limit = limit; skips_empty_buckets = skips })

abbrev pub having_or_none : (dimensions aggregations : List (List ℕ)) → Option Data → Result (Option having.Condition) QueryError
having_or_none dimensions aggregations None = Ok None
having_or_none dimensions aggregations (Some d) = do
  condition ← passed Having (having_of dimensions aggregations d)
  Ok (Some condition)

abbrev pub group_by_keys : List (List ℕ)
group_by_keys = codes "queryType" ∷ codes "dataSource" ∷ codes "intervals" ∷ codes "granularity" ∷ codes "filter" ∷ codes "aggregations" ∷ codes "dimensions" ∷ codes "having" ∷ codes "limitSpec" ∷ codes "context" ∷ []

-- of type `groupBy`; the names of its outputs are those of the dimensions, and then of the aggregations
unfoldable pub group_by_of : Schema → List Aggregation → Data → Members → Result AskedGroups QueryError
group_by_of schema aggregations d ms = do
  dimensions ← dimensions_of schema (field (codes "dimensions") d)
  outputs ← distinct_outputs (dimension_names dimensions) (aggregation_names aggregations)
  having ← having_or_none (dimension_names dimensions) (aggregation_names aggregations) (field (codes "having") d)
  limit_spec ← passed Order (limit_spec_of (dimension_names dimensions) (aggregation_names aggregations) (field (codes "limitSpec") d))
  context ← context_of (field (codes "context") d)
  unlisted ← no_unlisted group_by_keys ms
  Ok (record { dimensions = dimensions; having = having; limit_spec = limit_spec })

abbrev pub timeseries_shape : List Aggregation → Data → Members → Result AskedShape QueryError
timeseries_shape aggregations d ms = do
  asked ← timeseries_of aggregations d ms
  Ok (timeseries asked)

abbrev pub group_by_shape : Schema → List Aggregation → Data → Members → Result AskedShape QueryError
group_by_shape schema aggregations d ms = do
  asked ← group_by_of schema aggregations d ms
  Ok (group_by asked)

abbrev pub scan_shape : Schema → Data → Members → Result AskedShape QueryError
scan_shape schema d ms = do
  asked ← scan_of schema d ms
  Ok (scan asked)

-- by its type
abbrev pub shape_by : QueryType → Schema → List Aggregation → Data → Members → Result AskedShape QueryError
shape_by type.Timeseries schema aggregations d ms = timeseries_shape aggregations d ms
shape_by type.GroupBy schema aggregations d ms = group_by_shape schema aggregations d ms
shape_by type.Scan schema aggregations d ms = scan_shape schema d ms
