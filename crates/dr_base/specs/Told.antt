-- What is told where something is to hold, and where it isn't to.
use Rattle.std.specs.Prelude.{Bool, true, false, not}

abbrev pub told : Bool → Bool → Bool
told true holds = holds
told false holds = not holds
