-- Keys that the tables of this crate do not list (Apache Druid ignores them; here those that ask for something are refused).
use Rattle.std.specs.Prelude.{ℕ, List, Option, Some, None, Result, Ok, Err}
use Rattle.serde_json.specs.Data.{Data, null, boolean, number, string, array, object, Members, no_members}
use Rattle.dr_base.specs.Unlisted.{unlisted}
use Rattle.dr_spec.specs.declared.spec_error.SpecError.{SpecError}
use Rattle.dr_spec.specs.declared.spec_error.SpecError.TheVariants.{Unsupported}

abbrev pub refused_key : Option (List ℕ) → Result (Unit {0}) SpecError
refused_key None = Ok tt
refused_key (Some key) = Err (Unsupported key)

-- the members of an object; no other value has any
abbrev pub members_of : Data → Members
members_of null = no_members
members_of (boolean b) = no_members
members_of (number n) = no_members
members_of (string s) = no_members
members_of (array ds) = no_members
members_of (object ms) = ms

-- each key of the object is listed, or asks for nothing
abbrev pub only_listed : List (List ℕ) → Data → Result (Unit {0}) SpecError
only_listed listed d = refused_key (unlisted listed (members_of d))

-- the same of a section, which may be absent
abbrev pub only_listed_in : List (List ℕ) → Option Data → Result (Unit {0}) SpecError
only_listed_in listed None = Ok tt
only_listed_in listed (Some d) = only_listed listed d
