-- What is shared of a range.
use Rattle.std.specs.Arc.{arc_value}
use Rattle.dr_fragment.specs.Ranged.{Ranged}
use Rattle.dr_fragment.specs.declared.shared_fragment.Shared.{Shared}
use Rattle.dr_fragment.specs.declared.shared_fragment.Shared.TheVariants.{Made, Indexed}

abbrev pub range_shared : Shared → Ranged
range_shared (Made fragment) = arc_value fragment
range_shared (Indexed range) = range
