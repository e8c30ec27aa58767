use Rattle.std.proofs.Common.{◌≡◌, map, take}
use Rattle.dr_dict.proofs.sorted_dict.borrowed.Given as goal

abbrev pub invariant-loop-text : goal.invariant-loop-text
invariant-loop-text l = map (λ t. t.now) l.borrowed.items ≡ take l.text-index l.texts
