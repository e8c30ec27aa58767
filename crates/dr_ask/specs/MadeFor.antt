-- A query and the schema that it was made for.
use Rattle.std.specs.Prelude.{◌≡◌, ◌≤◌, ℕ, List, ◌++◌, bytes_eq, Option, Some, None, slice_get}
use Rattle.std.specs.List.{All, AllByRecursion, IsDistinct}
use Rattle.dr_agg.specs.declared.kind.Kind.{Kind}
use Rattle.dr_intervals.specs.Printable.{StartsPrintable}
use Rattle.dr_schema.specs.Columns.{kinds_of}
use Rattle.dr_schema.specs.declared.schema.Schema.{Schema}
use Rattle.dr_ask.specs.declared.column.Column.{Column}
use Rattle.dr_ask.specs.declared.scan.Scan.{Scan}
use Rattle.dr_ask.specs.Asked.{Asked, AskedShape, timeseries, group_by, scan, dimensions_by}
use Rattle.dr_ask.specs.ColumnsOf.{source_named}
use Rattle.dr_ask.specs.Outputs.{aggregation_names, dimension_names}

-- the column is the schema's, at that place and of that kind
abbrev pub IsColumn : List Kind → Option Column → Type 0
IsColumn kinds None = Unit {0}
IsColumn kinds (Some c) = slice_get kinds c.place ≡ Some c.kind

-- the names of the outputs: those of the dimensions, then those of the aggregations
abbrev pub outputs : Asked → List (List ℕ)
outputs q = dimension_names (dimensions_by q.shape) ++ aggregation_names q.aggregations

-- each column of a scan is the schema's of its name, and an entry has room for a row
pub record MadeScan (schema : Schema) (s : Scan) : Type 0 where
  pub columns : AllByRecursion (λ c. c.source ≡ source_named schema c.name) s.columns
  pub some_rows : 1 ≤ s.batch_size

abbrev pub MadeShape : Schema → AskedShape → Type 0
MadeShape schema (timeseries t) = Unit {0}
MadeShape schema (group_by g) = Unit {0}
MadeShape schema (scan s) = MadeScan schema s

-- rows are rolled up as the schema says, each column that is read is the schema's, no two outputs have one name, and the start of
-- each interval has a text
pub record MadeFor (schema : Schema) (q : Asked) : Type 0 where
  pub rollup : q.rollup ≡ schema.rollup
  pub columns : AllByRecursion (λ a. IsColumn (kinds_of schema) a.column) q.aggregations
  pub distinct : IsDistinct bytes_eq (outputs q)
  pub printable : All StartsPrintable q.intervals
  pub shape : MadeShape schema q.shape
