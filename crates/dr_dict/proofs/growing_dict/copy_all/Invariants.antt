use Rattle.std.proofs.Common.{◌≡◌, take}
use Rattle.dr_dict.proofs.growing_dict.copy_all.Given as goal

abbrev pub invariant-loop-text : goal.invariant-loop-text
invariant-loop-text l = l.copies.keys ≡ take l.text-index l.texts.keys
