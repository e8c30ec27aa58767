-- The section `dimensionsSpec` (Apache Druid documentation, ingestion spec): dimensions of texts alone.
use Rattle.std.specs.Prelude.{ℕ, List, [], ◌∷◌, length, ◌==◌, bytes_eq, codes, Option, Some, None, Result, Ok, Err, if◌then◌else◌}
use Rattle.serde_json.specs.Data.{Data, null, boolean, number, string, array, object}
use Rattle.dr_base.specs.declared.base_error.BaseError.TheVariants.{WrongKind}
use Rattle.dr_base.specs.Reading.{◌>>=◌, passed}
use Rattle.dr_base.specs.Fields.{as_list, text_field}
use Rattle.dr_spec.specs.declared.spec_error.SpecError.{SpecError}
use Rattle.dr_spec.specs.declared.spec_error.SpecError.TheVariants.{Base, UnsupportedDimension, NoDimensions}
use Rattle.dr_base.specs.Each.{each}
use Rattle.dr_spec.specs.Sections.{section, field_in, text_or, not_empty}

abbrev pub text_type : List ℕ → Result (Unit {0}) SpecError
text_type type = if bytes_eq type (codes "string") then Ok tt else Err (UnsupportedDimension type)

-- the name of a dimension: a text, or an object of type `string`
unfoldable pub dimension_of : Data → Result (List ℕ) SpecError
dimension_of null = Err (Base (WrongKind (codes "dimensions")))
dimension_of (boolean b) = Err (Base (WrongKind (codes "dimensions")))
dimension_of (number n) = Err (Base (WrongKind (codes "dimensions")))
dimension_of (string s) = passed Base (not_empty (codes "name") s)
dimension_of (array ds) = Err (Base (WrongKind (codes "dimensions")))
dimension_of (object ms) = do
  type ← passed Base (text_or (codes "type") (codes "string") (Some (object ms)))
  supported ← text_type type
  name ← passed Base (text_field (codes "name") (object ms))
  passed Base (not_empty (codes "name") name)

abbrev pub one_at_least : List (List ℕ) → Result (List (List ℕ)) SpecError
one_at_least names = if length names == 0 then Err NoDimensions else Ok names

abbrev pub listed_names : Option Data → Result (List (List ℕ)) SpecError
listed_names None = Err NoDimensions
listed_names (Some d) = do
  ds ← passed Base (as_list (codes "dimensions") d)
  names ← each dimension_of ds
  one_at_least names

-- the names of the dimensions, of which there is one at least
unfoldable pub dimensions_of : Data → Result (List (List ℕ)) SpecError
dimensions_of d = do
  s ← passed Base (section (codes "dimensionsSpec") d)
  listed_names (field_in (codes "dimensions") s)

-- its keys
abbrev pub dimensions_keys : List (List ℕ)
dimensions_keys = codes "dimensions" ∷ []
