-- The value of a dimension, which is a text (Apache Druid documentation, schema model, string dimensions in the mode where a
-- null is the empty text; that other values than texts, whole numbers and truth values are bad is this project's own).
use Rattle.std.specs.Prelude.{ℕ, List, [], Bool, true, false, Option, Some, None, codes, decimal}
use Rattle.std.specs.Fmt.{signed_decimal}
use Rattle.serde_json.specs.Data.{Num, unsigned, negative, float, Data, null, boolean, number, string, array, object}

-- true and false by their names
abbrev pub truth_text : Bool → List ℕ
truth_text true = codes "true"
truth_text false = codes "false"

-- a whole number, which lies from -2^63 to 2^64 - 1, in decimal; what has a fraction or an exponent isn't whole, and neither is `-0`
abbrev pub whole_text : Num → Option (List ℕ)
whole_text (unsigned n) = Some (decimal n)
whole_text (negative z) = Some (signed_decimal z)
whole_text (float x) = None

-- the text that the value of a field stands for; a field that is missing or null stands for the empty text
abbrev pub dimension_value : Option Data → Option (List ℕ)
dimension_value None = Some []
dimension_value (Some null) = Some []
dimension_value (Some (boolean b)) = Some (truth_text b)
dimension_value (Some (number n)) = whole_text n
dimension_value (Some (string s)) = Some s
dimension_value (Some (array ds)) = None
dimension_value (Some (object ms)) = None
