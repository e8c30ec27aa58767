use Rattle.std.proofs.Common.{pos, subst, get_or}
use Rattle.dr_rowindex.specs.Orders.{lies_between, Adds}
use Rattle.dr_rowindex.proofs.PutLemmas.{adds-between}
use Rattle.dr_rowindex.proofs.NumberLemmas.{not-reached, inside, ended}
use Rattle.dr_rowindex.proofs.number_order.NumberOrder.insert_between.Goals as goal

pub returns : goal.returns
returns c =
    let numbers = c.self.inside.numbers.items in
    let rows = c.self.inside.order in
    let from = c.args.from in
    let to = c.args.to in
    let low = rw (c.as_slice-numbers.ensures.value, c.rows-rows.ensures.value) at c.begin_of-from.ensures in
    let high = rw (c.as_slice-numbers.ensures.value, c.rows-rows.ensures.value) at c.end_of-to.ensures in
    subst (λ l. Adds (lies_between from to) l c.args.set.now c.insert_between.new.set) c.self.view_is
    (adds-between (pos 0) numbers (lies_between from to) rows c.rows-rows.ensures.all c.self.invariant.0 c.args.set.now c.insert_between.new.set c.begin_of-from.result c.end_of-to.result
    (λ j r lt lt'. not-reached from to (get_or numbers (get_or rows j r) (pos 0)) (low.before j r lt))
    (λ j r le lt lt'. inside from to (get_or numbers (get_or rows j r) (pos 0)) (low.behind j r le lt') (high.before j r lt))
    (λ j r le lt. ended from to (get_or numbers (get_or rows j r) (pos 0)) (high.behind j r le lt))
    c.insert_between.ensures)
