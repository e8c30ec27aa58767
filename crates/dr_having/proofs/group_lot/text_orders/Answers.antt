use Rattle.std.proofs.Common.{◌≡◌, ◌∙◌, sym, map, subst}
use Rattle.std.specs.List.{All}
use Rattle.std.proofs.lemmas.List.Elements.{All-push}
use Rattle.dr_outputs.specs.Numbered.{text_at}
use Rattle.dr_having.specs.declared.group_outputs.GroupOutputs.{GroupOutputs}
use Rattle.dr_having.specs.declared.ordered_texts.OrderedTexts.{OrderedTexts}
use Rattle.dr_having.proofs.group_lot.text_orders.Goals as goal

pub loop-place-preserved : goal.loop-place-preserved
loop-place-preserved c =
    let all = All-push (λ (o : OrderedTexts). o.order ≡ map (λ (g : GroupOutputs). text_at o.place g.dims) c.args.groups.now) c.loop-place.orders.items _ c.loop-place.invariant (c.in_ok-order.ensures ∙ c.in_ok-texts_of.ensures) in
    subst (All (λ (o : OrderedTexts). o.order ≡ map (λ (g : GroupOutputs). text_at o.place g.dims) c.args.groups.now)) (sym c.in_ok-push.ensures.items) all
