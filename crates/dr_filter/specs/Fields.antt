-- The fields that the filters of a dimension share (Apache Druid documentation, query filters).
use Rattle.std.specs.Prelude.{ℕ, Bool, false, List, [], ◌∷◌, Option, Some, None, Result, Ok, Err, if◌then◌else◌, bytes_eq, codes}
use Rattle.serde_json.specs.Data.{Data, null, boolean, number, string, array, object, Members}
use Rattle.dr_base.specs.Fields.{as_bool, as_object, text_field}
use Rattle.dr_base.specs.Reading.{◌>>=◌, passed}
use Rattle.dr_base.specs.Unlisted.{unlisted}
use Rattle.dr_schema.specs.declared.schema.Schema.{Schema}
use Rattle.dr_schema.specs.Names.{dimension_place, is_no_dimension}
use Rattle.dr_filter.specs.declared.filter_error.FilterError.{FilterError}
use Rattle.dr_filter.specs.declared.filter_error.FilterError.TheVariants.{Base, UnknownFilter, FilterOnMetric}

abbrev pub only_dimension : Schema → List ℕ → Result (Unit {0}) FilterError
only_dimension schema name = if is_no_dimension schema name then Err (FilterOnMetric name) else Ok tt

-- `dimension`
unfoldable pub dimension_of : Schema → Data → Result (Option ℕ) FilterError
dimension_of schema d = do
  name ← passed Base (text_field (codes "dimension") d)
  metric ← only_dimension schema name
  Ok (dimension_place schema name)

-- `lowerStrict`, `upperStrict`: false where it is absent
abbrev pub strict_or_not : List ℕ → Option Data → Result Bool FilterError
strict_or_not name None = Ok false
strict_or_not name (Some d) = passed Base (as_bool name d)

abbrev pub none_left : Option (List ℕ) → Result (Unit {0}) FilterError
none_left None = Ok tt
none_left (Some key) = Err (UnknownFilter key)

-- no key asks for something beside the listed ones
abbrev pub no_unlisted : List (List ℕ) → Members → Result (Unit {0}) FilterError
no_unlisted listed ms = none_left (unlisted listed ms)

-- texts are compared by their bytes, and in no other way
abbrev pub only_lexicographic : List ℕ → Result (Unit {0}) FilterError
only_lexicographic name = if bytes_eq name (codes "lexicographic") then Ok tt else Err (UnknownFilter name)

unfoldable pub ordering_object : Data → Result (Unit {0}) FilterError
ordering_object d = do
  members ← passed Base (as_object (codes "ordering") d)
  type ← passed Base (text_field (codes "type") d)
  read ← only_lexicographic type
  no_unlisted (codes "type" ∷ []) members

abbrev pub ordering_in : Data → Result (Unit {0}) FilterError
ordering_in null = ordering_object null
ordering_in (boolean b) = ordering_object (boolean b)
ordering_in (number n) = ordering_object (number n)
ordering_in (string s) = only_lexicographic s
ordering_in (array ds) = ordering_object (array ds)
ordering_in (object ms) = ordering_object (object ms)

-- `ordering`
abbrev pub ordering_of : Option Data → Result (Unit {0}) FilterError
ordering_of None = Ok tt
ordering_of (Some d) = ordering_in d
