-- The numbers and names of the refusals of this crate.
use Rattle.std.specs.Prelude.{ℕ, List, Bool, true, false, Result, codes}
use Rattle.dr_base.specs.Reading.{GivesUnless}
use Rattle.dr_image.specs.Refusal as image
use Rattle.dr_dump.specs.declared.dump_error.DumpError.{DumpError}
use Rattle.dr_dump.specs.declared.dump_error.DumpError.TheVariants.{NoMemory, Image, BadCommand}

abbrev pub number_of : DumpError → ℕ
number_of NoMemory = 0
number_of (Image e) = image.number_of e
number_of BadCommand = 101

abbrev pub name_of : DumpError → List ℕ
name_of NoMemory = codes "NoMemory"
name_of (Image e) = image.name_of e
name_of BadCommand = codes "BadCommand"

-- memory ran out
abbrev pub is_memory : DumpError → Bool
is_memory NoMemory = true
is_memory (Image e) = false
is_memory BadCommand = false

-- what a function returned, seen by view, is what the reading gives, unless memory ran out
abbrev pub Gives : {X Y : Type 0} → (X → Y) → Result X DumpError → Result Y DumpError → Type 0
Gives view result reading = GivesUnless is_memory view result reading
