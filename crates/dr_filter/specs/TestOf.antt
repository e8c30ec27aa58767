-- The filters of one dimension, each with its fields in the order of their table (Apache Druid documentation, query filters).
use Rattle.std.specs.Prelude.{ℕ, List, [], ◌∷◌, Result, Ok, Err, if◌then◌else◌, bytes_eq, codes}
use Rattle.serde_json.specs.Data.{Data, Members}
use Rattle.dr_base.specs.Fields.{field, text_field, list_field}
use Rattle.dr_base.specs.Reading.{◌>>=◌, passed}
use Rattle.dr_schema.specs.declared.schema.Schema.{Schema}
use Rattle.dr_predicate.specs.declared.bounds.Bounds.{Bounds}
use Rattle.dr_predicate.specs.declared.dimension_test.DimensionTest.{DimensionTest}
use Rattle.dr_filter.specs.declared.filter_error.FilterError.{FilterError}
use Rattle.dr_filter.specs.declared.filter_error.FilterError.TheVariants.{Base, UnknownFilter}
use Rattle.dr_predicate.specs.declared.value_test.ValueTest.TheVariants.{Equals, Among, Within, Like}
use Rattle.dr_filter.specs.Fields.{dimension_of, strict_or_not, ordering_of, no_unlisted}
use Rattle.dr_filter.specs.Values.{value_or_empty, value_or_none, distinct_values}

-- `selector`
unfoldable pub selector_of : Schema → Data → Members → Result DimensionTest FilterError
selector_of schema d ms = do
  place ← dimension_of schema d
  text ← value_or_empty (codes "value") (field (codes "value") d)
  unlisted ← no_unlisted (codes "type" ∷ codes "dimension" ∷ codes "value" ∷ []) ms
  Ok (record { place = place; test = Equals text })

-- `in`
unfoldable pub in_of : Schema → Data → Members → Result DimensionTest FilterError
in_of schema d ms = do
  place ← dimension_of schema d
  items ← passed Base (list_field (codes "values") d)
  texts ← distinct_values items
  unlisted ← no_unlisted (codes "type" ∷ codes "dimension" ∷ codes "values" ∷ []) ms
  Ok (record { place = place; test = Among texts })

abbrev pub bound_keys : List (List ℕ)
bound_keys = codes "type" ∷ codes "dimension" ∷ codes "lower" ∷ codes "upper" ∷ codes "lowerStrict" ∷ codes "upperStrict" ∷ codes "ordering" ∷ []

-- the ends of `bound`, and that it compares texts
unfoldable pub bounds_of : Data → Result Bounds FilterError
bounds_of d = do
  lower ← value_or_none (codes "lower") (field (codes "lower") d)
  upper ← value_or_none (codes "upper") (field (codes "upper") d)
  lower_strict ← strict_or_not (codes "lowerStrict") (field (codes "lowerStrict") d)
  upper_strict ← strict_or_not (codes "upperStrict") (field (codes "upperStrict") d)
  ordering ← ordering_of (field (codes "ordering") d)
  Ok (record { lower = lower; upper = upper; lower_strict = lower_strict; upper_strict = upper_strict })

-- `bound`
unfoldable pub bound_of : Schema → Data → Members → Result DimensionTest FilterError
bound_of schema d ms = do
  place ← dimension_of schema d
  bounds ← bounds_of d
  unlisted ← no_unlisted bound_keys ms
  Ok (record { place = place; test = Within bounds })

-- `like`
unfoldable pub like_of : Schema → Data → Members → Result DimensionTest FilterError
like_of schema d ms = do
  place ← dimension_of schema d
  pattern ← passed Base (text_field (codes "pattern") d)
  unlisted ← no_unlisted (codes "type" ∷ codes "dimension" ∷ codes "pattern" ∷ []) ms
  Ok (record { place = place; test = Like pattern })

-- by its type
abbrev pub test_by : List ℕ → Schema → Data → Members → Result DimensionTest FilterError
test_by type schema d ms =
    if bytes_eq type (codes "selector") then selector_of schema d ms
    else (if bytes_eq type (codes "in") then in_of schema d ms
    else (if bytes_eq type (codes "bound") then bound_of schema d ms
    else (if bytes_eq type (codes "like") then like_of schema d ms
    else Err (UnknownFilter type))))
