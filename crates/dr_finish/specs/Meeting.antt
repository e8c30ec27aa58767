-- Which rows of a partial result a query keeps, by what is asked of each group. No public contract cites this file.
use Rattle.std.specs.Prelude.{Bool, List}
use Rattle.dr_base.specs.declared.row.Row.{Row}
use Rattle.dr_having.specs.declared.asked_having.AskedHaving.{AskedHaving}
use Rattle.dr_having.specs.Asked.{asked_meets}
use Rattle.dr_ask.specs.declared.aggregation.Aggregation.{Aggregation}
use Rattle.dr_ask.specs.declared.dimension.Dimension.{Dimension}
use Rattle.dr_finish.specs.RowOrder.{spread_row}

abbrev pub row_meets : AskedHaving → List Dimension → List Aggregation → Row → Bool
row_meets asked dimensions aggregations r = asked_meets (spread_row dimensions aggregations r).dims (spread_row dimensions aggregations r).values asked
