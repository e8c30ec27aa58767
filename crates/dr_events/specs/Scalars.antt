-- What columns tell of the values of a JSON object. No public contract cites this file.
use Rattle.std.specs.Prelude.{◌≡◌, ◌++◌, ℕ, ℤ, ⊤, List, Option, Some, None, option_map, slice_get, Result, Ok}
use Rattle.std.specs.List.{AllZip}
use Rattle.serde_json.specs.Data.{Num, unsigned, negative, float, Data, null, boolean, number, string, array, object, no_items, Members}
use Rattle.serde_json.specs.Find.{get_member}
use Rattle.dr_base.specs.declared.event.Event.{Event}
use Rattle.dr_base.specs.Fields.{present}
use Rattle.dr_base.specs.Reading.{◌>>=◌}
use Rattle.dr_schema.specs.declared.metric.Metric.{Metric}
use Rattle.dr_schema.specs.declared.schema.Schema.{Schema}
use Rattle.dr_schema.specs.declared.time_format.TimeFormat.{TimeFormat}
use Rattle.dr_events.specs.declared.input.Input.{Input}
use Rattle.dr_events.specs.declared.places.Places.{Places}
use Rattle.dr_events.specs.declared.scalar.Scalar.{Scalar}
use Rattle.dr_events.specs.declared.scalar.Scalar.TheVariants.{Null, Bool, Whole, Negative, Text, Other}
use Rattle.dr_events.specs.declared.unparseable.Unparseable.{Unparseable}
use Rattle.dr_events.specs.declared.unparseable.Unparseable.TheVariants.{BadDimension, BadMetric}
use Rattle.dr_events.specs.Columns.{each}
use Rattle.dr_events.specs.EventTime.{event_time}
use Rattle.dr_events.specs.DimensionValue.{dimension_value}
use Rattle.dr_events.specs.MetricInput.{input_by}

-- an empty list stands for whatever is neither null nor a truth value nor a whole number nor a text
abbrev pub data_of : Scalar → Data
data_of Null = null
data_of (Bool b) = boolean b
data_of (Whole n) = number (unsigned n)
data_of (Negative z) = number (negative z)
data_of (Text s) = string s.now
data_of Other = array no_items

abbrev pub whole_only : Num → Data
whole_only (unsigned n) = number (unsigned n)
whole_only (negative z) = number (negative z)
whole_only (float x) = array no_items

-- a value as columns see it: they read alike whatever is neither null nor a truth value nor a whole number nor a text
abbrev pub plain : Data → Data
plain null = null
plain (boolean b) = boolean b
plain (number n) = whole_only n
plain (string s) = string s
plain (array ds) = array no_items
plain (object ms) = array no_items

-- the same of a field, where an absent one reads as null
abbrev pub seen : Option Data → Data
seen None = null
seen (Some d) = plain d

-- what columns see in the fields of these names is told, name by name
abbrev pub AreSeen : List (List ℕ) → List Scalar → Members → Type 0
AreSeen names found ms = AllZip (λ name s. data_of s ≡ seen (get_member name ms)) names found

-- these names stand in front of the others
abbrev pub AreFirst : List (List ℕ) → List (List ℕ) → Type 0
AreFirst firsts names = (more : List (List ℕ)) × (names ≡ firsts ++ more)

-- these names stand at these places, one by one
abbrev pub AreNamed : List (List ℕ) → List (List ℕ) → List ℕ → Type 0
AreNamed names columns places = AllZip (λ column place. slice_get names place ≡ Some column) columns places

-- an input has the kind of its metric, and the place of the field that the metric reads, where it reads one
abbrev pub IsPlaceOf : List (List ℕ) → Option (List ℕ) → Option ℕ → Type 0
IsPlaceOf names None None = ⊤
IsPlaceOf names None (Some place) = ⊥
IsPlaceOf names (Some field) None = ⊥
IsPlaceOf names (Some field) (Some place) = slice_get names place ≡ Some field

abbrev pub AreRead : List (List ℕ) → List Metric → List Input → Type 0
AreRead names metrics inputs = AllZip (λ (metric : Metric) (input : Input). (input.kind ≡ metric.kind) × IsPlaceOf names metric.field input.field) metrics inputs

-- the columns of a schema read these fields
abbrev pub AreFields : Schema → List (List ℕ) → Places → Type 0
AreFields s names places = (slice_get names places.time ≡ Some s.time_column) × AreNamed names s.dimensions places.dimensions.items × AreRead names s.metrics places.inputs.items

-- ---- the event of what columns see

abbrev pub value_at : List Scalar → ℕ → Option Data
value_at found place = option_map data_of (slice_get found place)

abbrev pub input_value : List Scalar → Option ℕ → Option Data
input_value found None = None
input_value found (Some place) = value_at found place

unfoldable pub dims_seen : List ℕ → List Scalar → Result (List (List ℕ)) Unparseable
dims_seen places found = each (λ place. dimension_value (value_at found place)) BadDimension places

unfoldable pub inputs_seen : List Input → List Scalar → Result (List ℤ) Unparseable
inputs_seen inputs found = each (λ (input : Input). input_by input.kind (input_value found input.field)) BadMetric inputs

unfoldable pub event_seen : TimeFormat → ℕ → Places → List Scalar → Result Event Unparseable
event_seen format seat places found = do
  time ← event_time format (present (value_at found places.time))
  dims ← dims_seen places.dimensions.items found
  inputs ← inputs_seen places.inputs.items found
  Ok (record { seat = seat; time = time; dims = dims; inputs = inputs })
