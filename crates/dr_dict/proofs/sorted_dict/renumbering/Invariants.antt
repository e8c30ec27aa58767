use Rattle.std.proofs.Common.{map, take}
use Rattle.dr_dict.specs.Sorted.{IsRenumbering}
use Rattle.dr_dict.proofs.sorted_dict.renumbering.Given as goal

abbrev pub invariant-loop-text : goal.invariant-loop-text
invariant-loop-text l = IsRenumbering (take l.text-index l.texts) (map (λ t. t.now) l.sorted-inside.texts.items) l.places.items
