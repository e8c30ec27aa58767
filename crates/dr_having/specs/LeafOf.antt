-- The conditions on one output, each with its fields in the order of their table (Apache Druid documentation, groupBy queries:
-- having).
use Rattle.std.specs.Prelude.{ℕ, List, [], ◌∷◌, Option, Some, None, Result, Ok, Err, if◌then◌else◌, bytes_eq, codes}
use Rattle.std.specs.List.{position}
use Rattle.serde_json.specs.Data.{Data, Members}
use Rattle.dr_base.specs.Fields.{field, as_text, text_field, int_field}
use Rattle.dr_base.specs.Reading.{◌>>=◌, passed}
use Rattle.dr_base.specs.Unlisted.{unlisted}
use Rattle.dr_having.specs.declared.comparison.Comparison.{Comparison}
use Rattle.dr_having.specs.declared.comparison.Comparison.TheVariants.{Equal, Greater, Less}
use Rattle.dr_having.specs.declared.group_value.GroupValue.{GroupValue}
use Rattle.dr_having.specs.declared.dimension_value.DimensionValue.{DimensionValue}
use Rattle.dr_having.specs.declared.having_error.HavingError.{HavingError}
use Rattle.dr_having.specs.declared.having_error.HavingError.TheVariants.{Base, Unsupported, UnknownHavingColumn}

-- the types that compare the value of an aggregation
abbrev pub comparison_of : List ℕ → Option Comparison
comparison_of type =
    if bytes_eq type (codes "equalTo") then Some Equal
    else (if bytes_eq type (codes "greaterThan") then Some Greater
    else (if bytes_eq type (codes "lessThan") then Some Less else None))

-- the place of a name among the outputs of its kind
abbrev pub place_of : List ℕ → Option ℕ → Result ℕ HavingError
place_of name None = Err (UnknownHavingColumn name)
place_of name (Some place) = Ok place

abbrev pub named : List (List ℕ) → List ℕ → Result ℕ HavingError
named names name = place_of name (position (bytes_eq name) names)

abbrev pub none_left : Option (List ℕ) → Result (Unit {0}) HavingError
none_left None = Ok tt
none_left (Some key) = Err (Unsupported key)

-- no key asks for something beside the listed ones
abbrev pub no_unlisted : List (List ℕ) → Members → Result (Unit {0}) HavingError
no_unlisted listed ms = none_left (unlisted listed ms)

-- `equalTo`, `greaterThan`, `lessThan`
unfoldable pub aggregation_of : Comparison → List (List ℕ) → Data → Members → Result GroupValue HavingError
aggregation_of comparison names d ms = do
  name ← passed Base (text_field (codes "aggregation") d)
  place ← named names name
  number ← passed Base (int_field (codes "value") d)
  unlisted ← no_unlisted (codes "type" ∷ codes "aggregation" ∷ codes "value" ∷ []) ms
  Ok (record { place = place; comparison = comparison; value = number })

-- a text, the empty one where it is absent
abbrev pub value_text : Option Data → Result (List ℕ) HavingError
value_text None = Ok []
value_text (Some d) = passed Base (as_text (codes "value") d)

-- `dimSelector`
unfoldable pub dimension_of : List (List ℕ) → Data → Members → Result DimensionValue HavingError
dimension_of names d ms = do
  name ← passed Base (text_field (codes "dimension") d)
  place ← named names name
  text ← value_text (field (codes "value") d)
  unlisted ← no_unlisted (codes "type" ∷ codes "dimension" ∷ codes "value" ∷ []) ms
  Ok (record { place = place; value = text })
