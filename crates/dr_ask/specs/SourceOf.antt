-- The data source of a query (Apache Druid documentation, native queries, datasources): the table of the schema.
use Rattle.std.specs.Prelude.{ℕ, List, [], ◌∷◌, Result, Ok, Err, if◌then◌else◌, bytes_eq, codes}
use Rattle.serde_json.specs.Data.{Data, null, boolean, number, string, array, object, Members}
use Rattle.dr_base.specs.declared.base_error.BaseError.TheVariants.{WrongKind}
use Rattle.dr_base.specs.Fields.{field, required, text_field}
use Rattle.dr_base.specs.Reading.{◌>>=◌, passed}
use Rattle.dr_ask.specs.declared.query_error.QueryError.{QueryError}
use Rattle.dr_ask.specs.declared.query_error.QueryError.TheVariants.{Base, WrongDataSource}
use Rattle.dr_ask.specs.Fields.{only_text, no_unlisted}

-- the name is that of the schema's
abbrev pub only_source : List ℕ → List ℕ → Result (Unit {0}) QueryError
only_source source name = if bytes_eq name source then Ok tt else Err (WrongDataSource name)

-- an object of type `table`
unfoldable pub source_object : List ℕ → Data → Members → Result (Unit {0}) QueryError
source_object source d ms = do
  type ← passed Base (text_field (codes "type") d)
  table ← only_text (codes "table") type
  name ← passed Base (text_field (codes "name") d)
  right ← only_source source name
  no_unlisted (codes "type" ∷ codes "name" ∷ []) ms

abbrev pub source_in : List ℕ → Data → Result (Unit {0}) QueryError
source_in source null = Err (Base (WrongKind (codes "dataSource")))
source_in source (boolean b) = Err (Base (WrongKind (codes "dataSource")))
source_in source (number n) = Err (Base (WrongKind (codes "dataSource")))
source_in source (string s) = only_source source s
source_in source (array ds) = Err (Base (WrongKind (codes "dataSource")))
source_in source (object ms) = source_object source (object ms) ms

-- `dataSource`
unfoldable pub source_of : List ℕ → Data → Result (Unit {0}) QueryError
source_of source d = do
  found ← passed Base (required (codes "dataSource") (field (codes "dataSource") d))
  source_in source found
