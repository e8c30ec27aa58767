-- What a query asks (Apache Druid documentation, timeseries, groupBy and scan queries).
use Rattle.std.specs.Prelude.{Bool, true, false, List, [], Option, option_map}
use Rattle.dr_time.specs.declared.interval.Interval.{Interval}
use Rattle.dr_gran.specs.declared.gran.Gran.{Gran}
use Rattle.dr_filter.specs.Condition as filter
use Rattle.dr_having.specs.Condition as having
use Rattle.dr_order.specs.declared.limit_spec.LimitSpec.{LimitSpec}
use Rattle.dr_ask.specs.declared.aggregation.Aggregation.{Aggregation}
use Rattle.dr_ask.specs.declared.dimension.Dimension.{Dimension}
use Rattle.dr_ask.specs.declared.timeseries.Timeseries.{Timeseries}
use Rattle.dr_ask.specs.declared.group_by.GroupBy.{GroupBy}
use Rattle.dr_ask.specs.declared.scan.Scan.{Scan}
use Rattle.dr_ask.specs.declared.shape.Shape.{Shape}
use Rattle.dr_ask.specs.declared.shape.Shape.TheVariants as shape
use Rattle.dr_ask.specs.declared.query.Query.{Query}

-- by which dimensions it groups, which groups it keeps, in which order and how many of them it gives
pub record AskedGroups : Type 0 where
  pub dimensions : List Dimension
  pub having : Option having.Condition
  pub limit_spec : LimitSpec

-- by its type
pub data AskedShape : Type 0 where
  timeseries : Timeseries → AskedShape
  group_by : AskedGroups → AskedShape
  scan : Scan → AskedShape

-- whether it asks for rows, and not for groups of them
abbrev pub is_scan : AskedShape → Bool
is_scan (timeseries t) = false
is_scan (group_by g) = false
is_scan (scan s) = true

-- the dimensions that it groups by: none in a timeseries, and none in a scan
abbrev pub dimensions_by : AskedShape → List Dimension
dimensions_by (timeseries t) = []
dimensions_by (group_by g) = g.dimensions
dimensions_by (scan s) = []

-- of which rows, in which buckets, and what of them; and whether the rows of the schema are rolled up
pub record Asked : Type 0 where
  pub intervals : List Interval
  pub granularity : Gran
  pub filter : Option filter.Condition
  pub aggregations : List Aggregation
  pub shape : AskedShape
  pub rollup : Bool

-- what a groupBy, and a query, asks
abbrev pub asked_groups : GroupBy → AskedGroups
asked_groups g = record { dimensions = g.dimensions; having = option_map having.condition_in g.having; limit_spec = g.limit_spec }

abbrev pub asked_shape : Shape → AskedShape
asked_shape (shape.Timeseries t) = timeseries t
asked_shape (shape.GroupBy g) = group_by (asked_groups g)
asked_shape (shape.Scan s) = scan s

abbrev pub asked : Query → Asked
asked q = record { intervals = q.intervals; granularity = q.granularity; filter = option_map filter.condition_in q.filter; aggregations = q.aggregations; shape = asked_shape q.shape; rollup = q.rollup }
