-- Sections: the objects of a spec that may be absent, and their fields.
use Rattle.std.specs.Prelude.{ℕ, List, length, ◌==◌, Bool, Option, Some, None, Result, Ok, Err, if◌then◌else◌}
use Rattle.serde_json.specs.Data.{Data, Items, no_items}
use Rattle.dr_base.specs.declared.base_error.BaseError.{BaseError}
use Rattle.dr_base.specs.declared.base_error.BaseError.TheVariants.{WrongKind}
use Rattle.dr_base.specs.Reading.{◌>>=◌}
use Rattle.dr_base.specs.Fields.{field, as_text, as_bool, as_list, as_object}

abbrev pub section_in : List ℕ → Option Data → Result (Option Data) BaseError
section_in name None = Ok None
section_in name (Some d) = do
  ms ← as_object name d
  Ok (Some d)

-- the object of a field, where there is one
abbrev pub section : List ℕ → Data → Result (Option Data) BaseError
section name d = section_in name (field name d)

-- the value of a field of a section; none where the section is absent too
abbrev pub field_in : List ℕ → Option Data → Option Data
field_in name None = None
field_in name (Some d) = field name d

abbrev pub text_in : List ℕ → List ℕ → Option Data → Result (List ℕ) BaseError
text_in name default None = Ok default
text_in name default (Some d) = as_text name d

-- the text of a field of a section, or its default
abbrev pub text_or : List ℕ → List ℕ → Option Data → Result (List ℕ) BaseError
text_or name default s = text_in name default (field_in name s)

abbrev pub bool_in : List ℕ → Bool → Option Data → Result Bool BaseError
bool_in name default None = Ok default
bool_in name default (Some d) = as_bool name d

-- the truth value of a field of a section, or its default
abbrev pub bool_or : List ℕ → Bool → Option Data → Result Bool BaseError
bool_or name default s = bool_in name default (field_in name s)

abbrev pub items_in : List ℕ → Option Data → Result Items BaseError
items_in name None = Ok no_items
items_in name (Some d) = as_list name d

-- the items of a field's list; an absent list has none
abbrev pub items_of_field : List ℕ → Data → Result Items BaseError
items_of_field name d = items_in name (field name d)

-- a text that isn't empty
abbrev pub not_empty : List ℕ → List ℕ → Result (List ℕ) BaseError
not_empty name text = if length text == 0 then Err (WrongKind name) else Ok text
