-- The numbers, names and arguments of the refusals of this crate.
use Rattle.std.specs.Prelude.{ℕ, List, Bool, false, Option, Some, None, Result, codes}
use Rattle.dr_base.specs.Refusal as base
use Rattle.dr_gran.specs.Refusal as gran
use Rattle.dr_base.specs.Reading.{GivesUnless}
use Rattle.dr_base.specs.declared.fault.Arg.{Arg}
use Rattle.dr_base.specs.declared.fault.Arg.TheVariants.{Name}
use Rattle.dr_spec.specs.declared.spec_error.SpecError.{SpecError}
use Rattle.dr_spec.specs.declared.spec_error.SpecError.TheVariants.{Base, UnsupportedDimension, UnsupportedMetric, Granularity, NotNested, DuplicateName, NoDimensions, Unsupported, TooManyColumns}

abbrev pub number_of : SpecError → ℕ
number_of (Base e) = base.number_of e
number_of (UnsupportedDimension type) = 20
number_of (UnsupportedMetric type) = 21
number_of (Granularity e) = gran.number_of e
number_of NotNested = 23
number_of (DuplicateName name) = 24
number_of NoDimensions = 25
number_of (Unsupported name) = 26
number_of TooManyColumns = 27

abbrev pub name_of : SpecError → List ℕ
name_of (Base e) = base.name_of e
name_of (UnsupportedDimension type) = codes "UnsupportedDimension"
name_of (UnsupportedMetric type) = codes "UnsupportedMetric"
name_of (Granularity e) = gran.name_of e
name_of NotNested = codes "NotNested"
name_of (DuplicateName name) = codes "DuplicateName"
name_of NoDimensions = codes "NoDimensions"
name_of (Unsupported name) = codes "Unsupported"
name_of TooManyColumns = codes "TooManyColumns"

-- the name that was refused
abbrev pub arg_of : SpecError → Option Arg
arg_of (Base e) = base.arg_of e
arg_of (UnsupportedDimension type) = Some (Name type)
arg_of (UnsupportedMetric type) = Some (Name type)
arg_of (Granularity e) = gran.arg_of e
arg_of NotNested = None
arg_of (DuplicateName name) = Some (Name name)
arg_of NoDimensions = None
arg_of (Unsupported name) = Some (Name name)
arg_of TooManyColumns = None

-- memory ran out
abbrev pub is_memory : SpecError → Bool
is_memory (Base e) = base.is_memory e
is_memory (UnsupportedDimension type) = false
is_memory (UnsupportedMetric type) = false
is_memory (Granularity e) = gran.is_memory e
is_memory NotNested = false
is_memory (DuplicateName name) = false
is_memory NoDimensions = false
is_memory (Unsupported name) = false
is_memory TooManyColumns = false

-- what a function returned, seen by view, is what the reading gives, unless memory ran out
abbrev pub Gives : {X Y : Type 0} → (X → Y) → Result X SpecError → Result Y SpecError → Type 0
Gives view result reading = GivesUnless is_memory view result reading
