-- What a text says, wherever it lies.
use Rattle.std.specs.Prelude.{ℕ, List, string_bytes}
use Rattle.std.specs.Arc.{arc_value}
use Rattle.dr_base.specs.declared.text.Kept.{Kept}
use Rattle.dr_base.specs.declared.text.Kept.TheVariants.{Short, Long}

abbrev pub kept : Kept → List ℕ
kept (Short text) = text
kept (Long shared) = string_bytes (arc_value shared)
