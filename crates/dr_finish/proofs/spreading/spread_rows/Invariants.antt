use Rattle.std.proofs.Common.{◌≡◌, ◌++◌, length, map}
use Rattle.std.specs.Vec.Iter.{into_iter_items, into_iter_len}
use Rattle.dr_finish.specs.RowOrder.{spread_row}
use Rattle.dr_finish.proofs.spreading.spread_rows.Given as goal

abbrev pub invariant-loop-row : goal.invariant-loop-row
invariant-loop-row l = (l.yielded ++ into_iter_items l.row-iterator ≡ l.fn.rows.items)
    × (l.groups.items ≡ map (spread_row l.dimensions l.aggregations) l.yielded)
    × (into_iter_len l.row-iterator ≡ length (into_iter_items l.row-iterator))
