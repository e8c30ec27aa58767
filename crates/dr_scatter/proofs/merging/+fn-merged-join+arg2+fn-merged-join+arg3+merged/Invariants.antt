use Rattle.std.proofs.Common.{length, ◌+◌, ◌*◌}
use Rattle.dr_scatter.proofs.merging.+fn-merged-join+arg2+fn-merged-join+arg3+merged.Given as goal

abbrev pub decreases-join+arg2 : goal.decreases-join+arg2
decreases-join+arg2 g l = 2 * length l.left.items + 1

abbrev pub decreases-join+arg3 : goal.decreases-join+arg3
decreases-join+arg3 g l = 2 * length l.right.items + 1

abbrev pub decreases-merged : goal.decreases-merged
decreases-merged g l = 2 * length l.parts.items
