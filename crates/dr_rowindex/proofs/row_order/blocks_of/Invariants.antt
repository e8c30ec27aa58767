use Rattle.std.proofs.Common.{◌≡◌, length}
use Rattle.dr_rowindex.specs.Orders.{AreBlocks}
use Rattle.dr_rowindex.proofs.row_order.blocks_of.Given as goal

abbrev pub invariant-loop-b : goal.invariant-loop-b
invariant-loop-b l = (length l.blocks.items ≡ l.b) × AreBlocks l.rows l.blocks.items
