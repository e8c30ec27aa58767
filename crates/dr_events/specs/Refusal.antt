-- The numbers, names and arguments of the refusals of this crate.
use Rattle.std.specs.Prelude.{◌≡◌, ℕ, List, Bool, true, false, Option, Some, None, Result, IfErr, codes}
use Rattle.dr_base.specs.Reading.{GivesUnless}
use Rattle.dr_base.specs.declared.fault.Arg.{Arg}
use Rattle.dr_base.specs.declared.fault.Arg.TheVariants.{Index}
use Rattle.dr_events.specs.declared.unparseable.Unparseable.{Unparseable}
use Rattle.dr_events.specs.declared.unparseable.Unparseable.TheVariants.{NoMemory, NotAnObject, NoTimestamp, BadTimestamp, BadDimension, BadMetric}

abbrev pub number_of : Unparseable → ℕ
number_of NoMemory = 0
number_of NotAnObject = 30
number_of NoTimestamp = 31
number_of BadTimestamp = 32
number_of (BadDimension place) = 33
number_of (BadMetric place) = 34

abbrev pub name_of : Unparseable → List ℕ
name_of NoMemory = codes "NoMemory"
name_of NotAnObject = codes "NotAnObject"
name_of NoTimestamp = codes "NoTimestamp"
name_of BadTimestamp = codes "BadTimestamp"
name_of (BadDimension place) = codes "BadDimension"
name_of (BadMetric place) = codes "BadMetric"

-- the place of the column whose field is bad, from 0
abbrev pub arg_of : Unparseable → Option Arg
arg_of NoMemory = None
arg_of NotAnObject = None
arg_of NoTimestamp = None
arg_of BadTimestamp = None
arg_of (BadDimension place) = Some (Index place)
arg_of (BadMetric place) = Some (Index place)

-- memory ran out
abbrev pub is_memory : Unparseable → Bool
is_memory NoMemory = true
is_memory NotAnObject = false
is_memory NoTimestamp = false
is_memory BadTimestamp = false
is_memory (BadDimension place) = false
is_memory (BadMetric place) = false

-- what a function returned, seen by view, is what the reading gives, unless memory ran out
abbrev pub Gives : {X Y : Type 0} → (X → Y) → Result X Unparseable → Result Y Unparseable → Type 0
Gives view result reading = GivesUnless is_memory view result reading

-- a refusal is that one, and then that holds, unless memory ran out
abbrev pub RefusesAs : {X : Type 0} → Unparseable → Result X Unparseable → Type 0 → Type 0
RefusesAs refusal result P = IfErr result (λ e. is_memory e ≡ false → (e ≡ refusal) × P)
