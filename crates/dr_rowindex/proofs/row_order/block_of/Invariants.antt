use Rattle.std.proofs.Common.{slice_range, replicate, false, length}
use Rattle.dr_rowindex.specs.Orders.{Put}
use Rattle.dr_rowindex.proofs.row_order.block_of.Given as goal

abbrev pub invariant-loop-k : goal.invariant-loop-k
invariant-loop-k l = Put (slice_range l.rows l.from l.k) (replicate (length l.rows) false) l.set
