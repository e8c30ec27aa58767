-- A granularity as a JSON value (Apache Druid documentation, query granularities): its name, or the object `{"type":"all"}`
-- or `{"type":"none"}`.
use Rattle.std.specs.Prelude.{ℕ, List, [], ◌∷◌, Option, Some, None, Result, Ok, Err, codes}
use Rattle.serde_json.specs.Data.{Data, null, boolean, number, string, array, object, Members}
use Rattle.serde_json.specs.Find.{get}
use Rattle.dr_base.specs.Unlisted.{unlisted}
use Rattle.dr_gran.specs.declared.gran.Gran.{Gran}
use Rattle.dr_gran.specs.declared.gran.Gran.TheVariants.{AllTime, Millisecond}
use Rattle.dr_gran.specs.declared.gran_error.GranError.{GranError}
use Rattle.dr_gran.specs.declared.gran_error.GranError.TheVariants.{UnsupportedGranularity}
use Rattle.dr_gran.specs.Name.{every_gran, named_among}

-- what was found, or the refusal of the name as it was written
abbrev pub or_unsupported : List ℕ → Option Gran → Result Gran GranError
or_unsupported name None = Err (UnsupportedGranularity name)
or_unsupported name (Some g) = Ok g

-- a value that is neither a text nor an object with a text as its `type`
abbrev pub no_granularity : Result Gran GranError
no_granularity = Err (UnsupportedGranularity (codes "granularity"))

abbrev pub by_name : List ℕ → Result Gran GranError
by_name name = or_unsupported name (named_among every_gran name)

-- an object of a type has no other key, but for one that asks for nothing
abbrev pub by_type : List ℕ → Option (List ℕ) → Result Gran GranError
by_type name None = or_unsupported name (named_among (AllTime ∷ Millisecond ∷ []) name)
by_type name (Some key) = Err (UnsupportedGranularity name)

abbrev pub by_object : Option Data → Members → Result Gran GranError
by_object None ms = no_granularity
by_object (Some null) ms = no_granularity
by_object (Some (boolean b)) ms = no_granularity
by_object (Some (number n)) ms = no_granularity
by_object (Some (string name)) ms = by_type name (unlisted (codes "type" ∷ []) ms)
by_object (Some (array ds)) ms = no_granularity
by_object (Some (object fields)) ms = no_granularity

-- the granularity that a value names
abbrev pub gran_of : Data → Result Gran GranError
gran_of null = no_granularity
gran_of (boolean b) = no_granularity
gran_of (number n) = no_granularity
gran_of (string name) = by_name name
gran_of (array ds) = no_granularity
gran_of (object ms) = by_object (get (codes "type") (object ms)) ms
