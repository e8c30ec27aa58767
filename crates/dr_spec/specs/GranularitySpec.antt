-- The section `granularitySpec` (Apache Druid documentation, ingestion spec and query granularities).
use Rattle.std.specs.Prelude.{ℕ, List, [], ◌∷◌, Bool, true, not, codes, Option, Some, None, Result, Ok, Err, if◌then◌else◌}
use Rattle.std.specs.Str.{str_eq_ignore_ascii_case}
use Rattle.serde_json.specs.Data.{Data, null, boolean, number, string, array, object}
use Rattle.dr_gran.specs.declared.gran.Gran.{Gran}
use Rattle.dr_gran.specs.declared.gran.Gran.TheVariants.{Millisecond, Day}
use Rattle.dr_gran.specs.declared.gran_error.GranError.TheVariants.{UnsupportedGranularity}
use Rattle.dr_gran.specs.Step.{is_all}
use Rattle.dr_schema.specs.WellFormed.{is_chunk_length}
use Rattle.dr_gran.specs.Nesting.{nests}
use Rattle.dr_gran.specs.Reading.{gran_of}
use Rattle.dr_base.specs.Reading.{◌>>=◌, passed}
use Rattle.dr_base.specs.Fields.{field}
use Rattle.dr_spec.specs.declared.spec_error.SpecError.{SpecError}
use Rattle.dr_spec.specs.declared.spec_error.SpecError.TheVariants.{Base, Granularity, NotNested, Unsupported}
use Rattle.dr_spec.specs.declared.granularity_spec.GranularitySpec.{GranularitySpec}
use Rattle.dr_spec.specs.Sections.{section, field_in, text_or, bool_or}

abbrev pub text_of : Option Data → List ℕ
text_of None = []
text_of (Some null) = []
text_of (Some (boolean b)) = []
text_of (Some (number n)) = []
text_of (Some (string s)) = s
text_of (Some (array ds)) = []
text_of (Some (object ms)) = []

-- the name of a granularity as it is written: a text, or the `type` of an object
abbrev pub written_name : Data → List ℕ
written_name null = []
written_name (boolean b) = []
written_name (number n) = []
written_name (string s) = s
written_name (array ds) = []
written_name (object ms) = text_of (field (codes "type") (object ms))

-- a granularity that is supported where it stands, or the refusal of its name
abbrev pub if_supported : Bool → Gran → Data → Result Gran SpecError
if_supported supported g d = if supported then Ok g else Err (Granularity (UnsupportedGranularity (written_name d)))

-- chunks of a day, where nothing else is said
unfoldable pub segment_granularity_of : Option Data → Result Gran SpecError
segment_granularity_of None = Ok Day
segment_granularity_of (Some d) = do
  g ← passed Granularity (gran_of d)
  if_supported (is_chunk_length g) g d

-- times are truncated to all but the one bucket of all times; to a millisecond, where nothing else is said
unfoldable pub query_granularity_of : Option Data → Result Gran SpecError
query_granularity_of None = Ok Millisecond
query_granularity_of (Some d) = do
  g ← passed Granularity (gran_of d)
  if_supported (not (is_all g)) g d

-- uniform chunks alone
abbrev pub uniform : List ℕ → Result (Unit {0}) SpecError
uniform type = if str_eq_ignore_ascii_case type (codes "uniform") then Ok tt else Err (Unsupported type)

unfoldable pub granularity_of : Data → Result GranularitySpec SpecError
granularity_of d = do
  s ← passed Base (section (codes "granularitySpec") d)
  type ← passed Base (text_or (codes "type") (codes "uniform") s)
  supported ← uniform type
  segment ← segment_granularity_of (field_in (codes "segmentGranularity") s)
  query ← query_granularity_of (field_in (codes "queryGranularity") s)
  rollup ← passed Base (bool_or (codes "rollup") true s)
  Ok (record { segment = segment; query = query; rollup = rollup })

-- each bucket of the query granularity lies in one chunk
abbrev pub nested : GranularitySpec → Result (Unit {0}) SpecError
nested g = if nests g.query g.segment then Ok tt else Err NotNested

-- its keys
abbrev pub granularity_keys : List (List ℕ)
granularity_keys = codes "type" ∷ codes "segmentGranularity" ∷ codes "queryGranularity" ∷ codes "rollup" ∷ []
