use Rattle.std.proofs.Common.{◌≡◌, drop}
use Rattle.dr_order.specs.Order.{columns_cmp}
use Rattle.dr_order.proofs.order_columns.by_columns.Given as goal

abbrev pub invariant-loop-column : goal.invariant-loop-column
invariant-loop-column l =
    columns_cmp (drop l.column-index l.columns) l.dims l.values l.other_dims l.other_values ≡ columns_cmp l.columns l.dims l.values l.other_dims l.other_values
