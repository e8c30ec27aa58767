-- The numbers and names of the refusals of a command line.
use Rattle.std.specs.Prelude.{ℕ, List, Bool, true, false, Result, codes}
use Rattle.dr_base.specs.Reading.{GivesUnless}
use Rattle.dr_usage.specs.declared.usage_error.UsageError.{UsageError}
use Rattle.dr_usage.specs.declared.usage_error.UsageError.TheVariants.{NoMemory, BadUsage}

abbrev pub number_of : UsageError → ℕ
number_of NoMemory = 0
number_of BadUsage = 103

abbrev pub name_of : UsageError → List ℕ
name_of NoMemory = codes "NoMemory"
name_of BadUsage = codes "BadUsage"

-- memory ran out
abbrev pub is_memory : UsageError → Bool
is_memory NoMemory = true
is_memory BadUsage = false

-- what a function returned, seen by view, is what the reading gives, unless memory ran out
abbrev pub Gives : {X Y : Type 0} → (X → Y) → Result X UsageError → Result Y UsageError → Type 0
Gives view result reading = GivesUnless is_memory view result reading
