-- The rows that a query reads (Apache Druid documentation, native queries, intervals and filter).
use Rattle.std.specs.Prelude.{Bool, true, ◌&&◌, List, Option, Some, None, filter}
use Rattle.dr_base.specs.declared.row.Row.{Row}
use Rattle.dr_base.specs.declared.key.Key.{Key}
use Rattle.dr_time.specs.Union.{union_holds}
use Rattle.dr_filter.specs.Condition.{Condition, matches}
use Rattle.dr_ask.specs.Asked.{Asked}

-- without a filter each row passes
abbrev pub passes : Option Condition → Key → Bool
passes None k = true
passes (Some condition) k = matches k.time k.dims condition

-- the time lies in one of the query's intervals, and the row passes its filter
abbrev pub selects : Asked → Key → Bool
selects q k = union_holds q.intervals k.time && passes q.filter k

abbrev pub selected : Asked → List Row → List Row
selected q rows = filter (λ r. selects q r.key) rows
