-- The dimensions that a groupBy groups by (Apache Druid documentation, native queries, dimension specs).
use Rattle.std.specs.Prelude.{ℕ, List, [], ◌∷◌, Option, Some, None, Result, Ok, Err, if◌then◌else◌, codes}
use Rattle.serde_json.specs.Data.{Data, null, boolean, number, string, array, object, Members}
use Rattle.dr_base.specs.declared.base_error.BaseError.TheVariants.{WrongKind}
use Rattle.dr_base.specs.Each.{each}
use Rattle.dr_base.specs.Fields.{field, as_text, as_list, text_field}
use Rattle.dr_base.specs.Reading.{◌>>=◌, passed}
use Rattle.dr_schema.specs.declared.schema.Schema.{Schema}
use Rattle.dr_schema.specs.Names.{dimension_place, is_no_dimension}
use Rattle.dr_ask.specs.declared.dimension.Dimension.{Dimension}
use Rattle.dr_ask.specs.declared.query_error.QueryError.{QueryError}
use Rattle.dr_ask.specs.declared.query_error.QueryError.TheVariants.{Base, DimensionIsMetric}
use Rattle.dr_ask.specs.Fields.{only_text, no_unlisted}

abbrev pub only_dimension : Schema → List ℕ → Result (Unit {0}) QueryError
only_dimension schema name = if is_no_dimension schema name then Err (DimensionIsMetric name) else Ok tt

-- a name alone is that of the output too
unfoldable pub dimension_named : Schema → List ℕ → Result Dimension QueryError
dimension_named schema name = do
  metric ← only_dimension schema name
  Ok (record { name = name; place = dimension_place schema name })

-- `outputName`: the name of the dimension where it is absent
abbrev pub output_name_of : List ℕ → Option Data → Result (List ℕ) QueryError
output_name_of name None = Ok name
output_name_of name (Some d) = passed Base (as_text (codes "outputName") d)

-- `outputType`
abbrev pub string_or_absent : Option Data → Result (Unit {0}) QueryError
string_or_absent None = Ok tt
string_or_absent (Some d) = do
  type ← passed Base (as_text (codes "outputType") d)
  only_text (codes "STRING") type

-- an object of type `default`
unfoldable pub dimension_object : Schema → Data → Members → Result Dimension QueryError
dimension_object schema d ms = do
  type ← passed Base (text_field (codes "type") d)
  default ← only_text (codes "default") type
  name ← passed Base (text_field (codes "dimension") d)
  metric ← only_dimension schema name
  output ← output_name_of name (field (codes "outputName") d)
  text ← string_or_absent (field (codes "outputType") d)
  unlisted ← no_unlisted (codes "type" ∷ codes "dimension" ∷ codes "outputName" ∷ codes "outputType" ∷ []) ms
  Ok (record { name = output; place = dimension_place schema name })

-- a member of the list
abbrev pub dimension_of : Schema → Data → Result Dimension QueryError
dimension_of schema null = Err (Base (WrongKind (codes "dimensions")))
dimension_of schema (boolean b) = Err (Base (WrongKind (codes "dimensions")))
dimension_of schema (number n) = Err (Base (WrongKind (codes "dimensions")))
dimension_of schema (string s) = dimension_named schema s
dimension_of schema (array ds) = Err (Base (WrongKind (codes "dimensions")))
dimension_of schema (object ms) = dimension_object schema (object ms) ms

-- `dimensions`: none where the field is absent
abbrev pub dimensions_of : Schema → Option Data → Result (List Dimension) QueryError
dimensions_of schema None = Ok []
dimensions_of schema (Some d) = do
  items ← passed Base (as_list (codes "dimensions") d)
  each (dimension_of schema) items
