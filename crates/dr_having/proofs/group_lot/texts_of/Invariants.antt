use Rattle.std.proofs.Common.{◌≡◌, map, take}
use Rattle.dr_outputs.specs.Numbered.{text_at}
use Rattle.dr_having.specs.declared.group_outputs.GroupOutputs.{GroupOutputs}
use Rattle.dr_having.proofs.group_lot.texts_of.Given as goal

abbrev pub invariant-loop-group : goal.invariant-loop-group
invariant-loop-group l = map (λ v. v.now) l.values.items ≡ map (λ (g : GroupOutputs). text_at l.place g.dims) (take l.group-index l.groups)
