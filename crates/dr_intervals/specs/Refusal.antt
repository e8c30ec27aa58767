-- When intervals are refused, and when memory ran out.
use Rattle.std.specs.Prelude.{Bool, false, Result}
use Rattle.dr_base.specs.Reading.{GivesUnless}
use Rattle.dr_base.specs.Refusal as base
use Rattle.dr_intervals.specs.declared.intervals_error.IntervalsError.{IntervalsError}
use Rattle.dr_intervals.specs.declared.intervals_error.IntervalsError.TheVariants.{Base, Time, Unread}

-- memory ran out
abbrev pub is_memory : IntervalsError → Bool
is_memory (Base e) = base.is_memory e
is_memory (Time e) = false
is_memory (Unread name) = false

-- what a function returned, seen by view, is what the reading gives, unless memory ran out
abbrev pub Gives : {X Y : Type 0} → (X → Y) → Result X IntervalsError → Result Y IntervalsError → Type 0
Gives view result reading = GivesUnless is_memory view result reading
