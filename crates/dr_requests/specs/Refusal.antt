-- The numbers and names of the refusals of this crate.
use Rattle.std.specs.Prelude.{ℕ, List, Bool, true, false, Result, codes}
use Rattle.dr_base.specs.Reading.{GivesUnless}
use Rattle.dr_requests.specs.declared.command_error.CommandError.{CommandError}
use Rattle.dr_requests.specs.declared.command_error.CommandError.TheVariants.{NoMemory, Line, BadCommand}
use Rattle.dr_lines.specs.Refusal as line

abbrev pub number_of : CommandError → ℕ
number_of NoMemory = 0
number_of (Line e) = line.number_of e
number_of BadCommand = 101

abbrev pub name_of : CommandError → List ℕ
name_of NoMemory = codes "NoMemory"
name_of (Line e) = line.name_of e
name_of BadCommand = codes "BadCommand"

-- memory ran out
abbrev pub is_memory : CommandError → Bool
is_memory NoMemory = true
is_memory (Line e) = false
is_memory BadCommand = false

-- what a function returned, seen by view, is what the reading gives, unless memory ran out
abbrev pub Gives : {X Y : Type 0} → (X → Y) → Result X CommandError → Result Y CommandError → Type 0
Gives view result reading = GivesUnless is_memory view result reading
