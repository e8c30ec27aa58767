-- Fields of JSON values. A field that holds null counts as absent.
use Rattle.std.specs.Prelude.{◌≡◌, ℕ, ℤ, Bool, false, List, Option, Some, None, Result, Ok, Err, option_and_then}
use Rattle.serde_json.specs.Data.{Data, null, boolean, number, string, array, object, Items, Members}
use Rattle.serde_json.specs.Find.{get, as_str, as_array, as_number, as_i64}
use Rattle.serde_json.specs.Find as find
use Rattle.dr_base.specs.declared.base_error.BaseError.{BaseError}
use Rattle.dr_base.specs.declared.base_error.BaseError.TheVariants.{Missing, WrongKind}
use Rattle.dr_base.specs.Reading.{◌>>=◌, GivesUnless}
use Rattle.dr_base.specs.Refusal.{is_memory}

-- what a function returned, seen by view, is what the reading gives, unless memory ran out
abbrev pub Gives : {X Y : Type 0} → (X → Y) → Result X BaseError → Result Y BaseError → Type 0
Gives view result reading = GivesUnless is_memory view result reading

-- that refusal, unless memory ran out
abbrev pub IsRefusal : BaseError → BaseError → Type 0
IsRefusal refusal e = is_memory e ≡ false → refusal ≡ e

-- a value that is there and isn't null
abbrev pub present : Option Data → Option Data
present None = None
present (Some null) = None
present (Some (boolean b)) = Some (boolean b)
present (Some (number n)) = Some (number n)
present (Some (string s)) = Some (string s)
present (Some (array ds)) = Some (array ds)
present (Some (object ms)) = Some (object ms)

-- the value of a field; none where it is absent or null
abbrev pub field : List ℕ → Data → Option Data
field name d = present (get name d)

-- the value of a field that is required, or the refusal of its name
abbrev pub required : List ℕ → Option Data → Result Data BaseError
required name None = Err (Missing name)
required name (Some d) = Ok d

-- what was found of a value, where it is of that kind; a refusal names the value
abbrev pub of_kind : {A : Type 0} → List ℕ → Option A → Result A BaseError
of_kind name None = Err (WrongKind name)
of_kind name (Some found) = Ok found

-- the value is a text
abbrev pub as_text : List ℕ → Data → Result (List ℕ) BaseError
as_text name d = of_kind name (as_str d)

-- the value is a list
abbrev pub as_list : List ℕ → Data → Result Items BaseError
as_list name d = of_kind name (as_array d)

-- the value is true or false
abbrev pub as_bool : List ℕ → Data → Result Bool BaseError
as_bool name d = of_kind name (find.as_bool d)

-- the value is a whole number of 64 bits with a sign
abbrev pub as_int : List ℕ → Data → Result ℤ BaseError
as_int name d = of_kind name (option_and_then as_i64 (as_number d))

-- the value is an object
abbrev pub as_object : List ℕ → Data → Result Members BaseError
as_object name d = of_kind name (find.as_object d)

-- a field that is required, of that kind
abbrev pub text_field : List ℕ → Data → Result (List ℕ) BaseError
text_field name d = required name (field name d) >>= as_text name

abbrev pub int_field : List ℕ → Data → Result ℤ BaseError
int_field name d = required name (field name d) >>= as_int name

abbrev pub bool_field : List ℕ → Data → Result Bool BaseError
bool_field name d = required name (field name d) >>= as_bool name

abbrev pub list_field : List ℕ → Data → Result Items BaseError
list_field name d = required name (field name d) >>= as_list name
