use Rattle.std.proofs.Common.{◌∙◌, ap, sym}
use Rattle.std.proofs.lemmas.Result.{IfOk-weaker}
use Rattle.dr_answers.specs.InOrder.{in_order_by}
use Rattle.dr_ask.specs.declared.time_order.TimeOrder.{TimeOrder}
use Rattle.dr_scan.specs.Places.{places_cmp}
use Rattle.dr_scan.proofs.placing.by_time.Goals as goal

pub returns-in-Ascending : goal.returns-in-Ascending
returns-in-Ascending c = IfOk-weaker c.ascending.result _ _ (λ ps is. is ∙ ap (λ (o : TimeOrder). in_order_by (places_cmp o) c.args.places.items) (sym c.in-Ascending.is)) c.ascending.ensures

pub returns-in-Descending : goal.returns-in-Descending
returns-in-Descending c = IfOk-weaker c.descending.result _ _ (λ ps is. is ∙ ap (λ (o : TimeOrder). in_order_by (places_cmp o) c.args.places.items) (sym c.in-Descending.is)) c.descending.ensures
