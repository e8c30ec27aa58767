-- A query that asks each dimension and each aggregation once, from one that may name some of them again under another name.
use Rattle.dr_ask.specs.declared.query.Query.{Query}
use Rattle.dr_ask.specs.Asked.{Asked, AskedShape, timeseries, group_by, scan, asked}
use Rattle.dr_ask.specs.Firsts.{firsts, is_same_aggregation, is_same_dimension}

abbrev pub once_shape : AskedShape → AskedShape
once_shape (timeseries t) = timeseries t
once_shape (group_by g) = group_by (record { dimensions = firsts is_same_dimension g.dimensions; having = g.having; limit_spec = g.limit_spec })
once_shape (scan s) = scan s

abbrev pub once : Asked → Asked
once q = record { intervals = q.intervals; granularity = q.granularity; filter = q.filter; aggregations = firsts is_same_aggregation q.aggregations; shape = once_shape q.shape; rollup = q.rollup }

-- what a query asks, each once
abbrev pub asked_once : Query → Asked
asked_once q = once (asked q)
