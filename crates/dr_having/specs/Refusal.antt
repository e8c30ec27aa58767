-- The numbers, names and arguments of the refusals of a `having`.
use Rattle.std.specs.Prelude.{ℕ, List, Bool, false, Option, Some, None, Result, codes}
use Rattle.dr_base.specs.declared.fault.Arg.{Arg}
use Rattle.dr_base.specs.declared.fault.Arg.TheVariants.{Name}
use Rattle.dr_base.specs.Reading.{GivesUnless}
use Rattle.dr_base.specs.Refusal as base
use Rattle.dr_having.specs.declared.having_error.HavingError.{HavingError}
use Rattle.dr_having.specs.declared.having_error.HavingError.TheVariants.{Base, TooDeep, Unsupported, UnknownHavingColumn}

abbrev pub number_of : HavingError → ℕ
number_of (Base e) = base.number_of e
number_of TooDeep = 62
number_of (Unsupported name) = 76
number_of (UnknownHavingColumn name) = 77

abbrev pub name_of : HavingError → List ℕ
name_of (Base e) = base.name_of e
name_of TooDeep = codes "TooDeep"
name_of (Unsupported name) = codes "Unsupported"
name_of (UnknownHavingColumn name) = codes "UnknownHavingColumn"

-- the type, key or column that was refused
abbrev pub arg_of : HavingError → Option Arg
arg_of (Base e) = base.arg_of e
arg_of TooDeep = None
arg_of (Unsupported name) = Some (Name name)
arg_of (UnknownHavingColumn name) = Some (Name name)

-- memory ran out
abbrev pub is_memory : HavingError → Bool
is_memory (Base e) = base.is_memory e
is_memory TooDeep = false
is_memory (Unsupported name) = false
is_memory (UnknownHavingColumn name) = false

-- what a function returned, seen by view, is what the reading gives, unless memory ran out
abbrev pub Gives : {X Y : Type 0} → (X → Y) → Result X HavingError → Result Y HavingError → Type 0
Gives view result reading = GivesUnless is_memory view result reading
