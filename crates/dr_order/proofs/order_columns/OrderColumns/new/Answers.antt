use Rattle.dr_order.proofs.Deciding.{Decides-none}
use Rattle.dr_order.proofs.order_columns.OrderColumns.new.Goals as goal

pub invariant_of-result : goal.invariant_of-result
invariant_of-result c = rw (c.new-2.ensures.items, c.new.ensures.items) Decides-none
