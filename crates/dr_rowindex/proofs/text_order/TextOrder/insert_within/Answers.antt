use Rattle.std.proofs.Common.{◌∙◌, [], sym, subst, map, get_or}
use Rattle.std.proofs.lemmas.List.{length-map}
use Rattle.dr_predicate.specs.Within.{lies_within}
use Rattle.dr_rowindex.specs.Orders.{Adds}
use Rattle.dr_rowindex.proofs.PutLemmas.{adds-between}
use Rattle.dr_rowindex.proofs.TextLemmas.{not-begun, held, ended}
use Rattle.dr_rowindex.proofs.text_order.TextOrder.insert_within.Goals as goal

pub returns : goal.returns
returns c =
    let texts = map (λ t. t.now) c.self.inside.texts.items in
    let rows = c.self.inside.order in
    let b = c.args.bounds.now in
    let low = rw (c.as_slice-texts.ensures.value, c.rows-rows.ensures.value) at c.begin_of-from.ensures in
    let high = rw (c.as_slice-texts.ensures.value, c.rows-rows.ensures.value) at c.end_of-to.ensures in
    let long = c.self.invariant.0 ∙ sym (length-map c.self.inside.texts.items (λ t. t.now)) in
    subst (λ l. Adds (lies_within b) l c.args.set.now c.insert_between.new.set) c.self.view_is
    (adds-between [] texts (lies_within b) rows c.rows-rows.ensures.all long c.args.set.now c.insert_between.new.set c.begin_of-from.result c.end_of-to.result
    (λ j r lt lt'. not-begun (get_or texts (get_or rows j r) []) b (low.before j r lt))
    (λ j r le lt lt'. held (get_or texts (get_or rows j r) []) b (low.behind j r le lt') (high.before j r lt))
    (λ j r le lt. ended (get_or texts (get_or rows j r) []) b (high.behind j r le lt))
    c.insert_between.ensures)
