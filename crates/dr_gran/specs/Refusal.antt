-- The number, name and argument of the refusal of this crate.
use Rattle.std.specs.Prelude.{ℕ, List, Bool, true, false, Option, Some, None, Result, codes}
use Rattle.dr_base.specs.declared.fault.Arg.{Arg}
use Rattle.dr_base.specs.declared.fault.Arg.TheVariants.{Name}
use Rattle.dr_base.specs.Reading.{GivesUnless}
use Rattle.dr_gran.specs.declared.gran_error.GranError.{GranError}
use Rattle.dr_gran.specs.declared.gran_error.GranError.TheVariants.{NoMemory, UnsupportedGranularity}

abbrev pub number_of : GranError → ℕ
number_of NoMemory = 0
number_of (UnsupportedGranularity name) = 22

abbrev pub name_of : GranError → List ℕ
name_of NoMemory = codes "NoMemory"
name_of (UnsupportedGranularity name) = codes "UnsupportedGranularity"

-- the name that was refused
abbrev pub arg_of : GranError → Option Arg
arg_of NoMemory = None
arg_of (UnsupportedGranularity name) = Some (Name name)

-- memory ran out
abbrev pub is_memory : GranError → Bool
is_memory NoMemory = true
is_memory (UnsupportedGranularity name) = false

-- what a function returned, seen by view, is what the reading gives, unless memory ran out
abbrev pub Gives : {X Y : Type 0} → (X → Y) → Result X GranError → Result Y GranError → Type 0
Gives view result reading = GivesUnless is_memory view result reading
