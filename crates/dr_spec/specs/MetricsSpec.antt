-- The list `metricsSpec` (Apache Druid documentation, ingestion spec and aggregations).
use Rattle.std.specs.Prelude.{ℕ, List, [], ◌∷◌, bytes_eq, codes, Option, Some, None, Result, Ok, Err, if◌then◌else◌}
use Rattle.serde_json.specs.Data.{Data}
use Rattle.dr_agg.specs.declared.kind.Kind.{Kind}
use Rattle.dr_agg.specs.declared.kind.Kind.TheVariants.{Count, LongSum, LongMin, LongMax}
use Rattle.dr_base.specs.Reading.{◌>>=◌, passed}
use Rattle.dr_base.specs.Fields.{as_object, text_field}
use Rattle.dr_spec.specs.declared.spec_error.SpecError.{SpecError}
use Rattle.dr_spec.specs.declared.spec_error.SpecError.TheVariants.{Base, UnsupportedMetric}
use Rattle.dr_schema.specs.declared.metric.Metric.{Metric}
use Rattle.dr_spec.specs.Sections.{items_of_field, not_empty}
use Rattle.dr_spec.specs.Leniency.{only_listed}
use Rattle.dr_base.specs.Each.{each}

-- how the columns of a type are combined
unfoldable pub kind_of : List ℕ → Result Kind SpecError
kind_of type =
    if bytes_eq type (codes "count") then Ok Count else (if bytes_eq type (codes "longSum") then Ok LongSum else (if bytes_eq type (codes "longMin") then Ok LongMin else (if bytes_eq type (codes "longMax") then Ok LongMax else Err (UnsupportedMetric type))))

abbrev pub some_text : Result (List ℕ) SpecError → Result (Option (List ℕ)) SpecError
some_text reading = do
  text ← reading
  Ok (Some text)

-- the field that is read; a count reads none
abbrev pub input_of : Kind → Data → Result (Option (List ℕ)) SpecError
input_of Count d = Ok None
input_of LongSum d = some_text (passed Base (text_field (codes "fieldName") d))
input_of LongMin d = some_text (passed Base (text_field (codes "fieldName") d))
input_of LongMax d = some_text (passed Base (text_field (codes "fieldName") d))

abbrev pub metric_keys : List (List ℕ)
metric_keys = codes "type" ∷ codes "name" ∷ codes "fieldName" ∷ []

-- a metric column, whose keys are judged last
unfoldable pub metric_of : Data → Result Metric SpecError
metric_of d = do
  members ← passed Base (as_object (codes "metricsSpec") d)
  type ← passed Base (text_field (codes "type") d)
  kind ← kind_of type
  text ← passed Base (text_field (codes "name") d)
  name ← passed Base (not_empty (codes "name") text)
  input ← input_of kind d
  listed ← only_listed metric_keys d
  Ok (record { name = name; kind = kind; field = input })

-- the metric columns, none where the list is absent
unfoldable pub metrics_of : Data → Result (List Metric) SpecError
metrics_of d = do
  ds ← passed Base (items_of_field (codes "metricsSpec") d)
  each metric_of ds
