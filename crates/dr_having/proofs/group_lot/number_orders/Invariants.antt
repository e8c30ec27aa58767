use Rattle.std.proofs.Common.{◌≡◌, map}
use Rattle.std.specs.List.{All}
use Rattle.dr_outputs.specs.Numbered.{number_at}
use Rattle.dr_having.specs.declared.group_outputs.GroupOutputs.{GroupOutputs}
use Rattle.dr_having.specs.declared.ordered_numbers.OrderedNumbers.{OrderedNumbers}
use Rattle.dr_having.proofs.group_lot.number_orders.Given as goal

abbrev pub invariant-loop-place : goal.invariant-loop-place
invariant-loop-place l = All (λ (o : OrderedNumbers). o.order ≡ map (λ (g : GroupOutputs). number_at o.place g.values) l.groups) l.orders.items
