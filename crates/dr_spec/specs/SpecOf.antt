-- The schema that a JSON text spells, or the first refusal (Apache Druid documentation, ingestion spec).
use Rattle.std.specs.Prelude.{ℕ, List, [], ◌∷◌, Bool, false, codes, Option, Some, None, Result, Ok, Err, if◌then◌else◌}
use Rattle.serde_json.specs.Data.{Data, null, boolean, number, string, array, object}
use Rattle.dr_base.specs.Reading.{◌>>=◌, passed}
use Rattle.dr_base.specs.Fields.{field, required, as_object, text_field}
use Rattle.dr_base.specs.Json.{json_of}
use Rattle.dr_base.specs.Unlisted.{is_empty_object}
use Rattle.dr_spec.specs.declared.spec_error.SpecError.{SpecError}
use Rattle.dr_spec.specs.declared.spec_error.SpecError.TheVariants.{Base, Unsupported}
use Rattle.dr_schema.specs.declared.schema.Schema.{Schema}
use Rattle.dr_spec.specs.Sections.{not_empty}
use Rattle.dr_spec.specs.Leniency.{only_listed, only_listed_in}
use Rattle.dr_spec.specs.TimestampSpec.{timestamp_of, timestamp_keys}
use Rattle.dr_spec.specs.DimensionsSpec.{dimensions_of, dimensions_keys}
use Rattle.dr_spec.specs.MetricsSpec.{metrics_of}
use Rattle.dr_spec.specs.GranularitySpec.{granularity_of, nested, granularity_keys}
use Rattle.dr_schema.specs.Columns.{column_names}
use Rattle.dr_spec.specs.Columns.{distinct_names, few_columns}
use Rattle.dr_spec.specs.TuningConfig.{limits_of}

abbrev pub under_spec : Data → Option Data → Result Data SpecError
under_spec d None = Ok d
under_spec d (Some inner) = do
  members ← passed Base (as_object (codes "spec") inner)
  Ok inner

-- the object under `spec`, or the whole text where there is none
unfoldable pub inner_of : Data → Result Data SpecError
inner_of d = do
  members ← passed Base (as_object (codes "spec") d)
  under_spec d (field (codes "spec") d)

unfoldable pub data_schema_of : Data → Result Data SpecError
data_schema_of d = do
  found ← passed Base (required (codes "dataSchema") (field (codes "dataSchema") d))
  members ← passed Base (as_object (codes "dataSchema") found)
  Ok found

unfoldable pub source_of : Data → Result (List ℕ) SpecError
source_of d = do
  name ← passed Base (text_field (codes "dataSource") d)
  passed Base (not_empty (codes "dataSource") name)

-- an object without members
abbrev pub is_empty : Data → Bool
is_empty null = false
is_empty (boolean b) = false
is_empty (number n) = false
is_empty (string s) = false
is_empty (array ds) = false
is_empty (object ms) = is_empty_object ms

-- transforms are not supported so far: null, or an object with no member
abbrev pub no_transform : Option Data → Result (Unit {0}) SpecError
no_transform None = Ok tt
no_transform (Some d) = if is_empty d then Ok tt else Err (Unsupported (codes "transformSpec"))

abbrev pub data_schema_keys : List (List ℕ)
data_schema_keys =
    codes "dataSource" ∷ codes "timestampSpec" ∷ codes "dimensionsSpec" ∷ codes "metricsSpec" ∷ codes "granularitySpec" ∷ codes "transformSpec" ∷ []

-- each object of a data schema has listed keys alone, or keys that ask for nothing
unfoldable pub only_listed_keys : Data → Result (Unit {0}) SpecError
only_listed_keys d = do
  own ← only_listed data_schema_keys d
  timestamp ← only_listed_in timestamp_keys (field (codes "timestampSpec") d)
  dimensions ← only_listed_in dimensions_keys (field (codes "dimensionsSpec") d)
  only_listed_in granularity_keys (field (codes "granularitySpec") d)

-- the steps of reading a spec, in their order
unfoldable pub spec_of : List ℕ → Result Schema SpecError
spec_of bytes = do
  text ← passed Base (json_of bytes)
  spec ← inner_of text
  d ← data_schema_of spec
  source ← source_of d
  timestamp ← timestamp_of d
  dimensions ← dimensions_of d
  metrics ← metrics_of d
  granularity ← granularity_of d
  nests ← nested granularity
  transform ← no_transform (field (codes "transformSpec") d)
  distinct ← distinct_names (column_names dimensions metrics)
  few ← few_columns dimensions metrics
  listed ← only_listed_keys d
  limits ← passed Base (limits_of spec)
  Ok (record { data_source = source; time_column = timestamp.column; time_format = timestamp.format; dimensions = dimensions; metrics = metrics; segment_granularity = granularity.segment; query_granularity = granularity.query; rollup = granularity.rollup; limits = limits })
