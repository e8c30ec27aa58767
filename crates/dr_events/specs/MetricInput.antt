-- The input of a metric, a whole number of 64 bits with a sign (Apache Druid documentation, ingestion spec, `metricsSpec`, in
-- the mode where a null is 0; which texts are numbers is this project's own).
use Rattle.std.specs.Prelude.{ℕ, ℤ, pos, List, [], ◌∷◌, Option, Some, None, option_and_then}
use Rattle.serde_json.specs.Data.{Data, null, boolean, number, string, array, object}
use Rattle.serde_json.specs.Find.{get, as_integer}
use Rattle.dr_agg.specs.declared.kind.Kind.{Kind}
use Rattle.dr_agg.specs.declared.kind.Kind.TheVariants.{Count, LongSum, LongMin, LongMax}
use Rattle.dr_schema.specs.declared.metric.Metric.{Metric}
use Rattle.dr_events.specs.WholeNumber.{in_64_bits, signed_number}

-- the empty text is 0
abbrev pub text_input : List ℕ → Option ℤ
text_input [] = Some (pos 0)
text_input (c ∷ cs) = option_and_then in_64_bits (signed_number (c ∷ cs))

-- the number that the value of a field stands for: a whole one, which has no fraction and no exponent and isn't `-0`, or the
-- number of a text; a field that is missing or null stands for 0
abbrev pub number_input : Option Data → Option ℤ
number_input None = Some (pos 0)
number_input (Some null) = Some (pos 0)
number_input (Some (boolean b)) = None
number_input (Some (number n)) = option_and_then in_64_bits (as_integer n)
number_input (Some (string s)) = text_input s
number_input (Some (array ds)) = None
number_input (Some (object ms)) = None

-- the value of the field that a metric reads, where it reads one
abbrev pub input_field : Option (List ℕ) → Data → Option Data
input_field None d = None
input_field (Some name) d = get name d

-- a count has the input 1, whatever the event is
abbrev pub input_by : Kind → Option Data → Option ℤ
input_by Count field = Some (pos 1)
input_by LongSum field = number_input field
input_by LongMin field = number_input field
input_by LongMax field = number_input field

-- the input of a metric
abbrev pub metric_input : Data → Metric → Option ℤ
metric_input d metric = input_by metric.kind (input_field metric.field d)
