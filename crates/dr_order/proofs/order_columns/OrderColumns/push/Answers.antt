use Rattle.std.proofs.Common.{◌≡◌, true}
use Rattle.std.specs.List.{list_any}
use Rattle.dr_order.specs.Deciding.{is_output}
use Rattle.dr_order.proofs.Deciding.{Decides-stood, Decides-push}
use Rattle.dr_order.proofs.order_columns.OrderColumns.push.Goals as goal

pub invariant_of-self-then-decides : goal.invariant_of-self-then-decides
invariant_of-self-then-decides c =
    rw (c.push-then-decides.ensures.items, c.unwrap.ensures, c.in_ok-reserve.ensures.items, c.in_ok-push.ensures.items)
    (Decides-push c.self.inside.deciding.items c.self.inside.columns.items c.args.column c.self.invariant)

pub invariant_of-self-else-decides : goal.invariant_of-self-else-decides
invariant_of-self-else-decides c =
    let stood : list_any (λ d. is_output d.output c.args.column.output) c.as_slice.result.now ≡ true = c.stands_at-decides.ensures c.if-decides.false in
    rw (c.in_ok-reserve.ensures.items, c.in_ok-push.ensures.items)
    (Decides-stood c.self.inside.deciding.items c.self.inside.columns.items c.args.column c.self.invariant (rw (← c.as_slice.ensures.value) stood))
