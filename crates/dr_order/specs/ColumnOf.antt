-- The columns that groups are ordered by (Apache Druid documentation, groupBy queries: limitSpec).
use Rattle.std.specs.Prelude.{ℕ, Bool, true, false, ◌||◌, ◌&&◌, List, [], ◌∷◌, Option, Some, None, Result, Ok, Err, if◌then◌else◌, bytes_eq, codes}
use Rattle.std.specs.List.{position}
use Rattle.std.specs.Str.{str_eq_ignore_ascii_case}
use Rattle.serde_json.specs.Data.{Data, null, boolean, number, string, array, object, Members}
use Rattle.dr_base.specs.declared.base_error.BaseError.TheVariants.{WrongKind}
use Rattle.dr_base.specs.Each.{each}
use Rattle.dr_base.specs.Fields.{field, as_text, as_list, as_object, text_field}
use Rattle.dr_base.specs.Reading.{◌>>=◌, passed}
use Rattle.dr_order.specs.declared.output.Output.{Output}
use Rattle.dr_order.specs.declared.output.Output.TheVariants.{Dimension, Aggregation}
use Rattle.dr_order.specs.declared.order_column.OrderColumn.{OrderColumn}
use Rattle.dr_order.specs.declared.order_error.OrderError.{OrderError}
use Rattle.dr_order.specs.declared.order_error.OrderError.TheVariants.{Base, UnknownOrderColumn, Unsupported}
use Rattle.dr_order.specs.Fields.{no_unlisted}

-- ---- the output

abbrev pub is_aggregation : Output → Bool
is_aggregation (Dimension place) = false
is_aggregation (Aggregation place) = true

-- a dimension of that place, or else an aggregation
abbrev pub output_among : (dimension aggregation : Option ℕ) → Option Output
output_among (Some place) aggregation = Some (Dimension place)
output_among None (Some place) = Some (Aggregation place)
output_among None None = None

abbrev pub known : List ℕ → Option Output → Result Output OrderError
known name None = Err (UnknownOrderColumn name)
known name (Some output) = Ok output

-- the output of that name
abbrev pub named : (dimensions aggregations : List (List ℕ)) → List ℕ → Result Output OrderError
named dimensions aggregations name = known name (output_among (position (bytes_eq name) dimensions) (position (bytes_eq name) aggregations))

-- ---- the direction

-- whether it is descending, in any ASCII case
abbrev pub direction_named : List ℕ → Result Bool OrderError
direction_named name =
    if str_eq_ignore_ascii_case name (codes "ascending") then Ok false
    else (if str_eq_ignore_ascii_case name (codes "descending") then Ok true else Err (Unsupported name))

-- `direction`: ascending where it is absent
abbrev pub direction_of : Option Data → Result Bool OrderError
direction_of None = Ok false
direction_of (Some d) = do
  name ← passed Base (as_text (codes "direction") d)
  direction_named name

-- ---- the order of the values, which changes nothing

abbrev pub is_known_order : Bool → List ℕ → Bool
is_known_order of_numbers name = bytes_eq name (codes "lexicographic") || (of_numbers && bytes_eq name (codes "numeric"))

abbrev pub only_known_order : Bool → List ℕ → Result (Unit {0}) OrderError
only_known_order of_numbers name = if is_known_order of_numbers name then Ok tt else Err (Unsupported name)

unfoldable pub order_object : Bool → Data → Result (Unit {0}) OrderError
order_object of_numbers d = do
  members ← passed Base (as_object (codes "dimensionOrder") d)
  type ← passed Base (text_field (codes "type") d)
  read ← only_known_order of_numbers type
  no_unlisted (codes "type" ∷ []) members

abbrev pub dimension_order_in : Bool → Data → Result (Unit {0}) OrderError
dimension_order_in of_numbers null = order_object of_numbers null
dimension_order_in of_numbers (boolean b) = order_object of_numbers (boolean b)
dimension_order_in of_numbers (number n) = order_object of_numbers (number n)
dimension_order_in of_numbers (string s) = only_known_order of_numbers s
dimension_order_in of_numbers (array ds) = order_object of_numbers (array ds)
dimension_order_in of_numbers (object ms) = order_object of_numbers (object ms)

-- `dimensionOrder`
abbrev pub dimension_order_of : Bool → Option Data → Result (Unit {0}) OrderError
dimension_order_of of_numbers None = Ok tt
dimension_order_of of_numbers (Some d) = dimension_order_in of_numbers d

-- ---- the column

-- an object
unfoldable pub column_object : (dimensions aggregations : List (List ℕ)) → Data → Members → Result OrderColumn OrderError
column_object dimensions aggregations d ms = do
  name ← passed Base (text_field (codes "dimension") d)
  output ← named dimensions aggregations name
  descending ← direction_of (field (codes "direction") d)
  order ← dimension_order_of (is_aggregation output) (field (codes "dimensionOrder") d)
  unlisted ← no_unlisted (codes "dimension" ∷ codes "direction" ∷ codes "dimensionOrder" ∷ []) ms
  Ok (record { output = output; descending = descending })

-- the name of an output alone
abbrev pub column_named : (dimensions aggregations : List (List ℕ)) → List ℕ → Result OrderColumn OrderError
column_named dimensions aggregations name = do
  output ← named dimensions aggregations name
  Ok (record { output = output; descending = false })

abbrev pub column_of : (dimensions aggregations : List (List ℕ)) → Data → Result OrderColumn OrderError
column_of dimensions aggregations null = Err (Base (WrongKind (codes "columns")))
column_of dimensions aggregations (boolean b) = Err (Base (WrongKind (codes "columns")))
column_of dimensions aggregations (number n) = Err (Base (WrongKind (codes "columns")))
column_of dimensions aggregations (string s) = column_named dimensions aggregations s
column_of dimensions aggregations (array ds) = Err (Base (WrongKind (codes "columns")))
column_of dimensions aggregations (object ms) = column_object dimensions aggregations (object ms) ms

-- `columns`: none where they are absent
abbrev pub columns_of : (dimensions aggregations : List (List ℕ)) → Option Data → Result (List OrderColumn) OrderError
columns_of dimensions aggregations None = Ok []
columns_of dimensions aggregations (Some d) = do
  items ← passed Base (as_list (codes "columns") d)
  each (column_of dimensions aggregations) items
