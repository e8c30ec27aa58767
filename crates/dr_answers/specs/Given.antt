-- Which groups a query gives, and in which order (Apache Druid documentation, timeseries queries, and groupBy queries: having
-- and limitSpec; that the bucket comes first in every order is this project's own rule).
use Rattle.std.specs.Prelude.{ℕ, Bool, true, List, [], Option, Some, None, drop, take, filter, reverse, if◌then◌else◌}
use Rattle.std.specs.Ordering.{int_cmp, ordering_then}
use Rattle.std.specs.declared.cmp.Ordering.{Ordering}
use Rattle.dr_having.specs.Condition.{Condition, meets}
use Rattle.dr_order.specs.declared.order_column.OrderColumn.{OrderColumn}
use Rattle.dr_order.specs.Order.{groups_cmp}
use Rattle.dr_ask.specs.Asked.{AskedShape, timeseries, group_by, scan}
use Rattle.dr_answers.specs.declared.result_row.ResultRow.{ResultRow}
use Rattle.dr_answers.specs.InOrder.{in_order_by}

-- without a `having` each group is kept
abbrev pub is_kept : Option Condition → ResultRow → Bool
is_kept None g = true
is_kept (Some condition) g = meets g.dims g.values condition

-- the bucket ascending, then the columns, then the dimensions ascending
abbrev pub result_cmp : List OrderColumn → ResultRow → ResultRow → Ordering
result_cmp columns a b = ordering_then (int_cmp a.time b.time) (groups_cmp columns a.dims a.values b.dims b.values)

abbrev pub in_order : List OrderColumn → List ResultRow → List ResultRow
in_order columns groups = in_order_by (result_cmp columns) groups

abbrev pub limited : {A : Type 0} → Option ℕ → List A → List A
limited None groups = groups
limited (Some limit) groups = take limit groups

-- a timeseries gives its buckets, in falling order where that is asked for, and then at most so many; a groupBy the groups that
-- are kept, in their order, without the first ones, and then at most so many; a scan has none to give
abbrev pub given_by : AskedShape → List ResultRow → List ResultRow
given_by (timeseries t) groups = limited t.limit (if t.descending then reverse groups else groups)
given_by (group_by g) groups = limited g.limit_spec.limit (drop g.limit_spec.offset (in_order g.limit_spec.columns (filter (is_kept g.having) groups)))
given_by (scan s) groups = []
