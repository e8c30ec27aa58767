-- The event that a JSON text spells, or the first refusal (Apache Druid documentation, ingestion).
use Rattle.std.specs.Prelude.{ℕ, ℤ, List, Result, Ok, Err}
use Rattle.serde_json.specs.Data.{Data, null, boolean, number, string, array, object}
use Rattle.serde_json.specs.Find.{get}
use Rattle.dr_base.specs.declared.event.Event.{Event}
use Rattle.dr_base.specs.Reading.{◌>>=◌, passed}
use Rattle.dr_base.specs.Fields.{field}
use Rattle.dr_base.specs.Json.{json_of}
use Rattle.dr_schema.specs.declared.metric.Metric.{Metric}
use Rattle.dr_schema.specs.declared.schema.Schema.{Schema}
use Rattle.dr_events.specs.declared.unparseable.Unparseable.{Unparseable}
use Rattle.dr_events.specs.declared.unparseable.Unparseable.TheVariants.{NotAnObject, BadDimension, BadMetric}
use Rattle.dr_events.specs.Columns.{each}
use Rattle.dr_events.specs.EventTime.{event_time}
use Rattle.dr_events.specs.DimensionValue.{dimension_value}
use Rattle.dr_events.specs.MetricInput.{metric_input}

abbrev pub as_event : Data → Result Data Unparseable
as_event null = Err NotAnObject
as_event (boolean b) = Err NotAnObject
as_event (number n) = Err NotAnObject
as_event (string s) = Err NotAnObject
as_event (array ds) = Err NotAnObject
as_event (object ms) = Ok (object ms)

-- the JSON object that the bytes spell
unfoldable pub object_of : List ℕ → Result Data Unparseable
object_of bytes = do
  d ← passed (λ e. NotAnObject) (json_of bytes)
  as_event d

-- a value for each dimension, read from the field of its name
unfoldable pub dims_of : List (List ℕ) → Data → Result (List (List ℕ)) Unparseable
dims_of names d = each (λ name. dimension_value (get name d)) BadDimension names

-- an input for each metric
unfoldable pub inputs_of : List Metric → Data → Result (List ℤ) Unparseable
inputs_of metrics d = each (metric_input d) BadMetric metrics

-- the event of an object, step by step
unfoldable pub event_in : Schema → ℕ → Data → Result Event Unparseable
event_in s seat d = do
  time ← event_time s.time_format (field s.time_column d)
  dims ← dims_of s.dimensions d
  inputs ← inputs_of s.metrics d
  Ok (record { seat = seat; time = time; dims = dims; inputs = inputs })

-- the event of a line
unfoldable pub event_of : Schema → ℕ → List ℕ → Result Event Unparseable
event_of s seat bytes = do
  d ← object_of bytes
  event_in s seat d
