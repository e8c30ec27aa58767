-- The items of a list, read one after the other.
use Rattle.std.specs.Prelude.{List, [], ◌∷◌, ◌++◌, Result, Ok}
use Rattle.serde_json.specs.Data.{Data, Items, no_items, item}
use Rattle.dr_base.specs.Reading.{◌>>=◌}

-- these values, and then what each item reads as; the first item that is refused refuses the list
unfoldable pub each_from : {A E : Type 0} → (Data → Result A E) → List A → Items → Result (List A) E
each_from reading values no_items = Ok values
each_from reading values (item d ds) = do
  value ← reading d
  each_from reading (values ++ value ∷ []) ds

-- what each item reads as
abbrev pub each : {A E : Type 0} → (Data → Result A E) → Items → Result (List A) E
each reading ds = each_from reading [] ds
