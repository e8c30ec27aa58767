-- The values that a filter compares with, which are texts (Apache Druid documentation, query filters, in the mode where a null
-- is the empty text; that whole numbers stand for their decimal texts is this project's own).
use Rattle.std.specs.Prelude.{ℕ, List, [], Option, Some, None, Result, Ok, Err, decimal, codes}
use Rattle.std.specs.Fmt.{signed_decimal}
use Rattle.serde_json.specs.Data.{Num, unsigned, negative, float, Data, null, boolean, number, string, array, object, Items, no_items, item}
use Rattle.dr_base.specs.declared.base_error.BaseError.TheVariants.{WrongKind}
use Rattle.dr_base.specs.Reading.{◌>>=◌}
use Rattle.dr_dict.specs.Dictionary.{with_text}
use Rattle.dr_filter.specs.declared.filter_error.FilterError.{FilterError}
use Rattle.dr_filter.specs.declared.filter_error.FilterError.TheVariants.{Base}

-- a whole number, which lies from -2^63 to 2^64 - 1, in decimal
abbrev pub whole_text : Num → Option (List ℕ)
whole_text (unsigned n) = Some (decimal n)
whole_text (negative z) = Some (signed_decimal z)
whole_text (float x) = None

abbrev pub text_or_kind : List ℕ → Option (List ℕ) → Result (List ℕ) FilterError
text_or_kind name None = Err (Base (WrongKind name))
text_or_kind name (Some text) = Ok text

-- a text, a whole number, or null, which is the empty text; a refusal has the name of the field
abbrev pub value_of : List ℕ → Data → Result (List ℕ) FilterError
value_of name null = Ok []
value_of name (boolean b) = Err (Base (WrongKind name))
value_of name (number n) = text_or_kind name (whole_text n)
value_of name (string s) = Ok s
value_of name (array ds) = Err (Base (WrongKind name))
value_of name (object ms) = Err (Base (WrongKind name))

-- a field that may be absent: then it is the empty text, or there is no text
abbrev pub value_or_empty : List ℕ → Option Data → Result (List ℕ) FilterError
value_or_empty name None = Ok []
value_or_empty name (Some d) = value_of name d

abbrev pub value_or_none : List ℕ → Option Data → Result (Option (List ℕ)) FilterError
value_or_none name None = Ok None
value_or_none name (Some d) = do
  text ← value_of name d
  Ok (Some text)

-- these texts, and then the items that are others, in the order in which they first stand
unfoldable pub distinct_from : List (List ℕ) → Items → Result (List (List ℕ)) FilterError
distinct_from texts no_items = Ok texts
distinct_from texts (item d ds) = do
  text ← value_of (codes "values") d
  distinct_from (with_text texts text) ds

abbrev pub distinct_values : Items → Result (List (List ℕ)) FilterError
distinct_values ds = distinct_from [] ds
