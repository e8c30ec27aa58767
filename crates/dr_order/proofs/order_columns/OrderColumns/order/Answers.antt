use Rattle.std.proofs.Common.{refl}
use Rattle.dr_order.proofs.Deciding.{decided}
use Rattle.dr_order.proofs.order_columns.OrderColumns.order.Goals as goal

pub returns : goal.returns
returns c =
    let same = decided c.self.inside.deciding.items c.self.inside.columns.items c.self.invariant c.args.dims.now c.args.values.now c.args.other_dims.now c.args.other_values.now in
    rw (c.by_columns.ensures, c.as_slice.ensures.value, same, ← c.self.view_is) refl
