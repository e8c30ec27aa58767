-- The numbers, names and arguments of the refusals of this crate.
use Rattle.std.specs.Prelude.{ℕ, List, Bool, true, false, Option, Some, None, codes}
use Rattle.dr_base.specs.declared.base_error.BaseError.{BaseError}
use Rattle.dr_base.specs.declared.base_error.BaseError.TheVariants.{NoMemory, NotJson, Missing, WrongKind}
use Rattle.dr_base.specs.declared.fault.Arg.{Arg}
use Rattle.dr_base.specs.declared.fault.Arg.TheVariants.{Name}

abbrev pub number_of : BaseError → ℕ
number_of NoMemory = 0
number_of NotJson = 1
number_of (Missing field) = 2
number_of (WrongKind field) = 3

abbrev pub name_of : BaseError → List ℕ
name_of NoMemory = codes "NoMemory"
name_of NotJson = codes "NotJson"
name_of (Missing field) = codes "Missing"
name_of (WrongKind field) = codes "WrongKind"

-- the name that was refused
abbrev pub arg_of : BaseError → Option Arg
arg_of NoMemory = None
arg_of NotJson = None
arg_of (Missing field) = Some (Name field)
arg_of (WrongKind field) = Some (Name field)

-- memory ran out
abbrev pub is_memory : BaseError → Bool
is_memory NoMemory = true
is_memory NotJson = false
is_memory (Missing field) = false
is_memory (WrongKind field) = false
