use Rattle.std.proofs.Common.{take}
use Rattle.std.specs.Str.{IsUtf8}
use Rattle.std.specs.List.{AllByRecursion}
use Rattle.dr_timeline.proofs.known_texts.known_texts.Given as goal

abbrev pub invariant-loop-text : goal.invariant-loop-text
invariant-loop-text l = AllByRecursion IsUtf8 (take l.text-index l.event.dims)
