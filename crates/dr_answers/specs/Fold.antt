-- What an aggregation folds (Apache Druid documentation, native queries, aggregations).
use Rattle.std.specs.Prelude.{ℤ, pos, List, Option, Some, None, map}
use Rattle.dr_agg.specs.declared.kind.Kind.{Kind}
use Rattle.dr_agg.specs.declared.kind.Kind.TheVariants.{Count, LongSum, LongMin, LongMax}
use Rattle.dr_agg.specs.Combination.{column, fold_of}
use Rattle.dr_base.specs.declared.row.Row.{Row}
use Rattle.dr_ask.specs.declared.column.Column.{Column}
use Rattle.dr_ask.specs.declared.aggregation.Aggregation.{Aggregation}

-- the value of a metric column in a row; 0 where there is no such column
abbrev pub value_at : Option Column → Row → ℤ
value_at None r = pos 0
value_at (Some c) r = column c.place r.metrics

-- a count reads 1 of each row, every other kind the value of its column
abbrev pub reading_in : Kind → Option Column → Row → ℤ
reading_in Count column r = pos 1
reading_in LongSum column r = value_at column r
reading_in LongMin column r = value_at column r
reading_in LongMax column r = value_at column r

-- from the unit, what is read of each row combined one by one, in the order of the rows
abbrev pub folded : Aggregation → List Row → ℤ
folded a rows = fold_of a.kind (map (reading_in a.kind a.column) rows)

-- the folds of some aggregations, in their order
abbrev pub folds : List Aggregation → List Row → List ℤ
folds aggregations rows = map (λ a. folded a rows) aggregations
