-- What a text asks of a schema as a query, or its first refusal (Apache Druid documentation, native queries).
use Rattle.std.specs.Prelude.{ℕ, List, [], Option, Some, None, codes, Result, Ok, Err, if◌then◌else◌}
use Rattle.serde_json.specs.Data.{Data, Members}
use Rattle.dr_base.specs.Fields.{field, required, as_object, text_field}
use Rattle.dr_base.specs.Json.{json_of}
use Rattle.dr_base.specs.Reading.{◌>>=◌, passed}
use Rattle.dr_filter.specs.Condition as filter
use Rattle.dr_filter.specs.FilterOf.{filter_of}
use Rattle.dr_gran.specs.declared.gran.Gran as gran
use Rattle.dr_gran.specs.declared.gran.Gran.TheVariants.{AllTime}
use Rattle.dr_gran.specs.Reading.{gran_of}
use Rattle.dr_gran.specs.Step.{is_all}
use Rattle.dr_intervals.specs.IntervalsOf.{intervals_of}
use Rattle.dr_schema.specs.declared.schema.Schema.{Schema}
use Rattle.dr_ask.specs.declared.aggregation.Aggregation.{Aggregation}
use Rattle.dr_ask.specs.declared.query_error.QueryError.{QueryError}
use Rattle.dr_ask.specs.declared.query_error.QueryError.TheVariants.{Base, Gran, Filter, Unsupported}
use Rattle.dr_ask.specs.declared.query_type.QueryType.{QueryType}
use Rattle.dr_ask.specs.declared.query_type.QueryType.TheVariants as type
use Rattle.dr_ask.specs.AggregationsOf.{aggregations_of}
use Rattle.dr_ask.specs.Asked.{Asked}
use Rattle.dr_ask.specs.Refusal.{of_intervals}
use Rattle.dr_ask.specs.ShapeOf.{shape_by}
use Rattle.dr_ask.specs.SourceOf.{source_of}
use Rattle.dr_ask.specs.TypeOf.{type_named}

-- `granularity`
unfoldable pub granularity_of : Data → Result gran.Gran QueryError
granularity_of d = do
  found ← passed Base (required (codes "granularity") (field (codes "granularity") d))
  passed Gran (gran_of found)

-- `granularity` of a scan: `all`, where it is there
abbrev pub only_all : gran.Gran → Result gran.Gran QueryError
only_all g = if is_all g then Ok g else Err (Unsupported (codes "granularity"))

abbrev pub scan_granularity_of : Option Data → Result gran.Gran QueryError
scan_granularity_of None = Ok AllTime
scan_granularity_of (Some d) = do
  g ← passed Gran (gran_of d)
  only_all g

abbrev pub granularity_by : QueryType → Data → Result gran.Gran QueryError
granularity_by type.Timeseries d = granularity_of d
granularity_by type.GroupBy d = granularity_of d
granularity_by type.Scan d = scan_granularity_of (field (codes "granularity") d)

-- `aggregations`, which a scan doesn't read
abbrev pub aggregations_by : QueryType → Schema → Option Data → Result (List Aggregation) QueryError
aggregations_by type.Timeseries schema d = aggregations_of schema d
aggregations_by type.GroupBy schema d = aggregations_of schema d
aggregations_by type.Scan schema d = Ok []

-- `filter`: none where it is absent
abbrev pub filter_or_none : Schema → Option Data → Result (Option filter.Condition) QueryError
filter_or_none schema None = Ok None
filter_or_none schema (Some d) = do
  condition ← passed Filter (filter_of schema d)
  Ok (Some condition)

-- what every query asks, and then what it asks by its type
unfoldable pub asked_of : Schema → QueryType → Data → Members → Result Asked QueryError
asked_of schema type d ms = do
  intervals ← passed of_intervals (intervals_of d)
  granularity ← granularity_by type d
  filter ← filter_or_none schema (field (codes "filter") d)
  aggregations ← aggregations_by type schema (field (codes "aggregations") d)
  shape ← shape_by type schema aggregations d ms
  Ok (record { intervals = intervals; granularity = granularity; filter = filter; aggregations = aggregations; shape = shape; rollup = schema.rollup })

-- field by field in this order; what a query asks by its type, and the fields that are not read, come last
unfoldable pub query_of : Schema → List ℕ → Result Asked QueryError
query_of schema bytes = do
  d ← passed Base (json_of bytes)
  members ← passed Base (as_object (codes "query") d)
  name ← passed Base (text_field (codes "queryType") d)
  type ← type_named name
  source ← source_of schema.data_source d
  asked_of schema type d members
