-- The groups of a query from those of the query that asks each dimension and each aggregation once.
use Rattle.std.specs.Prelude.{List}
use Rattle.dr_outputs.specs.Numbered.{numbers_by, texts_by}
use Rattle.dr_ask.specs.declared.aggregation.Aggregation.{Aggregation}
use Rattle.dr_ask.specs.declared.dimension.Dimension.{Dimension}
use Rattle.dr_ask.specs.Asked.{Asked, dimensions_by}
use Rattle.dr_ask.specs.Firsts.{numbers_of, is_same_aggregation, is_same_dimension}
use Rattle.dr_answers.specs.declared.result_row.ResultRow.{ResultRow}

-- for each of some dimensions and some aggregations the value that the group has
abbrev pub spread_over : List Dimension → List Aggregation → ResultRow → ResultRow
spread_over dimensions aggregations g = record { time = g.time; dims = texts_by (numbers_of is_same_dimension dimensions) g.dims; values = numbers_by (numbers_of is_same_aggregation aggregations) g.values }

-- for each output of a query
abbrev pub spread : Asked → ResultRow → ResultRow
spread q g = spread_over (dimensions_by q.shape) q.aggregations g
