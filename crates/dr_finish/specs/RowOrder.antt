-- The order of the groups of a partial result, by what their outputs are. No public contract cites this file.
use Rattle.std.specs.Prelude.{ℕ, zero, suc, List, [], ◌∷◌}
use Rattle.std.specs.Ordering.{ordering_then}
use Rattle.std.specs.declared.cmp.Ordering.{Ordering}
use Rattle.dr_base.specs.declared.row.Row.{Row}
use Rattle.dr_base.specs.Order.{key_cmp}
use Rattle.dr_order.specs.declared.order_column.OrderColumn.{OrderColumn}
use Rattle.dr_ask.specs.declared.aggregation.Aggregation.{Aggregation}
use Rattle.dr_ask.specs.declared.dimension.Dimension.{Dimension}
use Rattle.dr_answers.specs.declared.result_row.ResultRow.{ResultRow}
use Rattle.dr_answers.specs.Given.{result_cmp}
use Rattle.dr_answers.specs.Spread.{spread_over}
use Rattle.dr_partial.specs.Partial.{result_row}

-- a row of a partial result as a group, with a value for each output
abbrev pub spread_row : List Dimension → List Aggregation → Row → ResultRow
spread_row dimensions aggregations r = spread_over dimensions aggregations (result_row r)

-- as the groups compare, and then by their keys
abbrev pub row_cmp : List OrderColumn → List Dimension → List Aggregation → Row → Row → Ordering
row_cmp columns dimensions aggregations a b =
    ordering_then (result_cmp columns (spread_row dimensions aggregations a) (spread_row dimensions aggregations b)) (key_cmp a.key b.key)

-- so many numbers, one after another
abbrev pub numbers_from : (count first : ℕ) → List ℕ
numbers_from zero first = []
numbers_from (suc count) first = first ∷ numbers_from count (suc first)
