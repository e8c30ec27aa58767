use Rattle.std.proofs.Common.{◌≡◌, map}
use Rattle.std.specs.List.{All}
use Rattle.dr_select.specs.declared.placed_order.PlacedOrder.{PlacedOrder}
use Rattle.dr_select.specs.Rows.{value_of}
use Rattle.dr_select.proofs.lot.orders_of.Given as goal

abbrev pub invariant-loop-place : goal.invariant-loop-place
invariant-loop-place l = All (λ (o : PlacedOrder). o.order ≡ map (value_of o.place) l.rows) l.orders.items
