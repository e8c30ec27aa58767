-- The columns of a data source: `__time`, the dimensions and the metrics (Apache Druid documentation, schema model).
use Rattle.std.specs.Prelude.{ℕ, List, ◌++◌, map}
use Rattle.dr_agg.specs.declared.kind.Kind.{Kind}
use Rattle.dr_schema.specs.declared.metric.Metric.{Metric}
use Rattle.dr_schema.specs.declared.schema_fields.SchemaFields.{SchemaFields}

-- the names of the dimensions, and then of the metrics
abbrev pub column_names : List (List ℕ) → List Metric → List (List ℕ)
column_names dimensions metrics = dimensions ++ map (λ m. m.name) metrics

-- how the column of each metric is combined
abbrev pub kinds_of : SchemaFields → List Kind
kinds_of schema = map (λ m. m.kind) schema.metrics
