-- The aggregations of a query (Apache Druid documentation, native queries, aggregations).
use Rattle.std.specs.Prelude.{ℕ, List, [], ◌∷◌, Bool, ◌||◌, bytes_eq, codes, Option, Some, None, option_map, find, Result, Ok, Err, if◌then◌else◌}
use Rattle.std.specs.List.{list_any, enumerate_from}
use Rattle.serde_json.specs.Data.{Data, Members}
use Rattle.dr_base.specs.Fields.{as_list, as_object, text_field}
use Rattle.dr_base.specs.Reading.{◌>>=◌, passed}
use Rattle.dr_base.specs.Each.{each}
use Rattle.dr_agg.specs.declared.kind.Kind.{Kind}
use Rattle.dr_agg.specs.declared.kind.Kind.TheVariants.{Count, LongSum, LongMin, LongMax}
use Rattle.dr_schema.specs.declared.metric.Metric.{Metric}
use Rattle.dr_schema.specs.declared.schema.Schema.{Schema}
use Rattle.dr_ask.specs.declared.aggregation.Aggregation.{Aggregation}
use Rattle.dr_ask.specs.declared.column.Column.{Column}
use Rattle.dr_ask.specs.declared.query_error.QueryError.{QueryError}
use Rattle.dr_ask.specs.declared.query_error.QueryError.TheVariants.{Base, FieldIsDimension, Unsupported}
use Rattle.dr_ask.specs.Fields.{no_unlisted}

-- `__time`, or the name of a dimension
abbrev pub is_dimension : Schema → List ℕ → Bool
is_dimension schema name = bytes_eq name (codes "__time") || list_any (bytes_eq name) schema.dimensions

-- an aggregation reads no dimension
abbrev pub no_dimension : Schema → List ℕ → Result (Unit {0}) QueryError
no_dimension schema name = if is_dimension schema name then Err (FieldIsDimension name) else Ok tt

-- the first metric of that name, with its place; none where no metric has the name
abbrev pub column_of : List Metric → List ℕ → Option Column
column_of metrics name =
    option_map (λ m. record { place = m.0; kind = m.1.kind }) (find (λ m. bytes_eq m.1.name name) (enumerate_from 0 metrics))

-- the types that are read
abbrev pub kind_named : List ℕ → Option Kind
kind_named type =
    if bytes_eq type (codes "count") then Some Count
    else (if bytes_eq type (codes "longSum") then Some LongSum
    else (if bytes_eq type (codes "longMin") then Some LongMin
    else (if bytes_eq type (codes "longMax") then Some LongMax else None)))

-- `count`
unfoldable pub count_of : Data → Members → Result Aggregation QueryError
count_of d ms = do
  name ← passed Base (text_field (codes "name") d)
  unlisted ← no_unlisted (codes "type" ∷ codes "name" ∷ []) ms
  Ok (record { name = name; kind = Count; column = None })

-- `longSum`, `longMin`, `longMax` over a metric
unfoldable pub over_column_of : Kind → Schema → Data → Members → Result Aggregation QueryError
over_column_of kind schema d ms = do
  name ← passed Base (text_field (codes "name") d)
  read ← passed Base (text_field (codes "fieldName") d)
  dimension ← no_dimension schema read
  unlisted ← no_unlisted (codes "type" ∷ codes "name" ∷ codes "fieldName" ∷ []) ms
  Ok (record { name = name; kind = kind; column = column_of schema.metrics read })

abbrev pub of_kind : Kind → Schema → Data → Members → Result Aggregation QueryError
of_kind Count schema d ms = count_of d ms
of_kind LongSum schema d ms = over_column_of LongSum schema d ms
of_kind LongMin schema d ms = over_column_of LongMin schema d ms
of_kind LongMax schema d ms = over_column_of LongMax schema d ms

abbrev pub aggregation_by : Option Kind → List ℕ → Schema → Data → Members → Result Aggregation QueryError
aggregation_by None type schema d ms = Err (Unsupported type)
aggregation_by (Some kind) type schema d ms = of_kind kind schema d ms

-- a member of the list
unfoldable pub aggregation_of : Schema → Data → Result Aggregation QueryError
aggregation_of schema d = do
  members ← passed Base (as_object (codes "aggregations") d)
  type ← passed Base (text_field (codes "type") d)
  aggregation_by (kind_named type) type schema d members

-- `aggregations`: none where the field is absent
abbrev pub aggregations_of : Schema → Option Data → Result (List Aggregation) QueryError
aggregations_of schema None = Ok []
aggregations_of schema (Some d) = do
  items ← passed Base (as_list (codes "aggregations") d)
  each (aggregation_of schema) items
