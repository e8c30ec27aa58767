-- The numbers and names of the refusals of a timeline.
use Rattle.std.specs.Prelude.{ℕ, List, Bool, true, false, codes}
use Rattle.dr_timeline.specs.declared.timeline_error.TimelineError.{TimelineError}
use Rattle.dr_timeline.specs.declared.timeline_error.TimelineError.TheVariants.{NoMemory, ImageTooLarge, StreamFull, NothingToSeal, NoSuchRange, Stale, CommitsFull}

abbrev pub number_of : TimelineError → ℕ
number_of NoMemory = 0
number_of ImageTooLarge = 59
number_of StreamFull = 90
number_of NothingToSeal = 91
number_of NoSuchRange = 92
number_of Stale = 93
number_of CommitsFull = 95

abbrev pub name_of : TimelineError → List ℕ
name_of NoMemory = codes "NoMemory"
name_of ImageTooLarge = codes "ImageTooLarge"
name_of StreamFull = codes "StreamFull"
name_of NothingToSeal = codes "NothingToSeal"
name_of NoSuchRange = codes "NoSuchRange"
name_of Stale = codes "Stale"
name_of CommitsFull = codes "CommitsFull"

-- memory ran out
abbrev pub is_memory : TimelineError → Bool
is_memory NoMemory = true
is_memory ImageTooLarge = false
is_memory StreamFull = false
is_memory NothingToSeal = false
is_memory NoSuchRange = false
is_memory Stale = false
is_memory CommitsFull = false
