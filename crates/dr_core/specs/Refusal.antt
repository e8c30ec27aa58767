-- The numbers and names of the refusals of a core.
use Rattle.std.specs.Prelude.{ℕ, List, Bool, false, codes}
use Rattle.dr_timeline.specs.Refusal as timeline
use Rattle.dr_core.specs.declared.core_error.CoreError.{CoreError}
use Rattle.dr_merge.specs.Refusal as merge
use Rattle.dr_core.specs.declared.core_error.CoreError.TheVariants.{NoSuch, Merge, Timeline}

abbrev pub number_of : CoreError → ℕ
number_of NoSuch = 101
number_of (Merge e) = merge.number_of e
number_of (Timeline e) = timeline.number_of e

abbrev pub name_of : CoreError → List ℕ
name_of NoSuch = codes "BadCommand"
name_of (Merge e) = merge.name_of e
name_of (Timeline e) = timeline.name_of e

-- memory ran out
abbrev pub is_memory : CoreError → Bool
is_memory NoSuch = false
is_memory (Merge e) = merge.is_memory e
is_memory (Timeline e) = timeline.is_memory e
