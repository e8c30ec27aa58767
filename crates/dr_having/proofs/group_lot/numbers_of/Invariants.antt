use Rattle.std.proofs.Common.{◌≡◌, map, take}
use Rattle.dr_outputs.specs.Numbered.{number_at}
use Rattle.dr_having.specs.declared.group_outputs.GroupOutputs.{GroupOutputs}
use Rattle.dr_having.proofs.group_lot.numbers_of.Given as goal

abbrev pub invariant-loop-group : goal.invariant-loop-group
invariant-loop-group l = l.values.items ≡ map (λ (g : GroupOutputs). number_at l.place g.values) (take l.group-index l.groups)
