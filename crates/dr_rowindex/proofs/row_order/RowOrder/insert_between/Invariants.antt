use Rattle.std.proofs.Common.{◌≡◌, ◌-◌, ◌≤◌, slice_range}
use Rattle.dr_rowindex.specs.Orders.{Put}
use Rattle.dr_rowindex.proofs.row_order.RowOrder.insert_between.Given as goal

abbrev pub invariant-loop-k : goal.invariant-loop-k
invariant-loop-k l = (l.from ≤ l.k) × ((l.from ≤ l.to → l.k ≤ l.to) × ((l.to ≤ l.from → l.k ≡ l.from) × Put (slice_range l.self l.from l.k) l.initial.set l.set))

abbrev pub decreases-loop-k : goal.decreases-loop-k
decreases-loop-k l = l.to - l.k
