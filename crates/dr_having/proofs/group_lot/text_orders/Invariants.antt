use Rattle.std.proofs.Common.{◌≡◌, map}
use Rattle.std.specs.List.{All}
use Rattle.dr_outputs.specs.Numbered.{text_at}
use Rattle.dr_having.specs.declared.group_outputs.GroupOutputs.{GroupOutputs}
use Rattle.dr_having.specs.declared.ordered_texts.OrderedTexts.{OrderedTexts}
use Rattle.dr_having.proofs.group_lot.text_orders.Given as goal

abbrev pub invariant-loop-place : goal.invariant-loop-place
invariant-loop-place l = All (λ (o : OrderedTexts). o.order ≡ map (λ (g : GroupOutputs). text_at o.place g.dims) l.groups) l.orders.items
