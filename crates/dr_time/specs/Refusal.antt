-- The numbers and names of the refusals of this crate.
use Rattle.std.specs.Prelude.{ℕ, List, codes}
use Rattle.dr_time.specs.declared.time_error.TimeError.{TimeError}
use Rattle.dr_time.specs.declared.time_error.TimeError.TheVariants.{BadInstant, OutOfRange, BadInterval, EndBeforeStart}

abbrev pub number_of : TimeError → ℕ
number_of BadInstant = 10
number_of OutOfRange = 11
number_of BadInterval = 12
number_of EndBeforeStart = 13

abbrev pub name_of : TimeError → List ℕ
name_of BadInstant = codes "BadInstant"
name_of OutOfRange = codes "OutOfRange"
name_of BadInterval = codes "BadInterval"
name_of EndBeforeStart = codes "EndBeforeStart"
