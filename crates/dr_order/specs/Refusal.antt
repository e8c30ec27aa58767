-- The numbers, names and arguments of the refusals of a `limitSpec`.
use Rattle.std.specs.Prelude.{ℕ, List, Bool, false, Option, Some, Result, codes}
use Rattle.dr_base.specs.declared.fault.Arg.{Arg}
use Rattle.dr_base.specs.declared.fault.Arg.TheVariants.{Name}
use Rattle.dr_base.specs.Reading.{GivesUnless}
use Rattle.dr_base.specs.Refusal as base
use Rattle.dr_order.specs.declared.order_error.OrderError.{OrderError}
use Rattle.dr_order.specs.declared.order_error.OrderError.TheVariants.{Base, UnknownOrderColumn, Unsupported}

abbrev pub number_of : OrderError → ℕ
number_of (Base e) = base.number_of e
number_of (UnknownOrderColumn name) = 73
number_of (Unsupported name) = 76

abbrev pub name_of : OrderError → List ℕ
name_of (Base e) = base.name_of e
name_of (Unsupported name) = codes "Unsupported"
name_of (UnknownOrderColumn name) = codes "UnknownOrderColumn"

-- the type, direction, order, key or column that was refused
abbrev pub arg_of : OrderError → Option Arg
arg_of (Base e) = base.arg_of e
arg_of (Unsupported name) = Some (Name name)
arg_of (UnknownOrderColumn name) = Some (Name name)

-- memory ran out
abbrev pub is_memory : OrderError → Bool
is_memory (Base e) = base.is_memory e
is_memory (Unsupported name) = false
is_memory (UnknownOrderColumn name) = false

-- what a function returned, seen by view, is what the reading gives, unless memory ran out
abbrev pub Gives : {X Y : Type 0} → (X → Y) → Result X OrderError → Result Y OrderError → Type 0
Gives view result reading = GivesUnless is_memory view result reading
