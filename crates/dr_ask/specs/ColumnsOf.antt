-- The columns of a scan (Apache Druid documentation, scan queries; that a name stands once is this project's own rule).
use Rattle.std.specs.Prelude.{ℕ, ◌==◌, length, List, [], ◌∷◌, ◌++◌, map, Option, Some, None, Result, Ok, Err, if◌then◌else◌, bytes_eq, codes}
use Rattle.std.specs.List.{list_any}
use Rattle.serde_json.specs.Data.{Data, Items, no_items, item}
use Rattle.dr_base.specs.Fields.{as_text, as_list}
use Rattle.dr_base.specs.Reading.{◌>>=◌, passed}
use Rattle.dr_schema.specs.Columns.{column_names}
use Rattle.dr_schema.specs.declared.schema.Schema.{Schema}
use Rattle.dr_ask.specs.declared.column.Column.{Column}
use Rattle.dr_ask.specs.declared.column_source.ColumnSource.{ColumnSource}
use Rattle.dr_ask.specs.declared.column_source.ColumnSource.TheVariants.{Time, Dimension, Metric, Unknown}
use Rattle.dr_ask.specs.declared.scan_column.ScanColumn.{ScanColumn}
use Rattle.dr_ask.specs.declared.query_error.QueryError.{QueryError}
use Rattle.dr_ask.specs.declared.query_error.QueryError.TheVariants.{Base, DuplicateOutput}
use Rattle.dr_ask.specs.AggregationsOf.{column_of}
use Rattle.dr_schema.specs.Names.{dimension_place}

-- ---- the column of a name

abbrev pub metric_or_unknown : Option Column → ColumnSource
metric_or_unknown None = Unknown
metric_or_unknown (Some column) = Metric column.place

abbrev pub dimension_or_metric : Option ℕ → Option Column → ColumnSource
dimension_or_metric None column = metric_or_unknown column
dimension_or_metric (Some place) column = Dimension place

-- the time, a dimension or a metric of the schema; unknown where it has no such column
abbrev pub source_named : Schema → List ℕ → ColumnSource
source_named schema name =
    if bytes_eq name (codes "__time") then Time
    else dimension_or_metric (dimension_place schema name) (column_of schema.metrics name)

abbrev pub column_named : Schema → List ℕ → ScanColumn
column_named schema name = record { name = name; source = source_named schema name }

-- ---- the columns of a list of names

-- of the schema: the time, the dimensions and the metrics
abbrev pub all_names : Schema → List (List ℕ)
all_names schema = codes "__time" ∷ column_names schema.dimensions schema.metrics

-- the columns of these names, or of all where there is no name
abbrev pub columns_named : Schema → List (List ℕ) → List ScanColumn
columns_named schema names = map (column_named schema) (if length names == 0 then all_names schema else names)

-- ---- the field

-- a text that isn't among those that were seen before
abbrev pub new_name : List (List ℕ) → List ℕ → Result (List ℕ) QueryError
new_name seen name = if list_any (bytes_eq name) seen then Err (DuplicateOutput name) else Ok name

unfoldable pub name_of : List (List ℕ) → Data → Result (List ℕ) QueryError
name_of seen d = do
  name ← passed Base (as_text (codes "columns") d)
  new_name seen name

-- member by member
unfoldable pub names_from : List (List ℕ) → Items → Result (List (List ℕ)) QueryError
names_from seen no_items = Ok seen
names_from seen (item d ds) = do
  name ← name_of seen d
  names_from (seen ++ name ∷ []) ds

abbrev pub names_of : Option Data → Result (List (List ℕ)) QueryError
names_of None = Ok []
names_of (Some d) = do
  items ← passed Base (as_list (codes "columns") d)
  names_from [] items

-- `columns`: an absent field is an empty list
unfoldable pub columns_of : Schema → Option Data → Result (List ScanColumn) QueryError
columns_of schema d = do
  names ← names_of d
  Ok (columns_named schema names)
