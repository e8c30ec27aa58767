-- Queries whose answers don't depend on how rows were rolled up (Apache Druid documentation, ingestion: rollup).
use Rattle.std.specs.Prelude.{Bool, true, false, ◌||◌, ◌&&◌, not, List, Option, Some, None}
use Rattle.std.specs.List.{list_all}
use Rattle.dr_agg.specs.declared.kind.Kind.{Kind}
use Rattle.dr_agg.specs.declared.kind.Kind.TheVariants.{Count, LongSum, LongMin, LongMax}
use Rattle.dr_agg.specs.Combination.{matches_column}
use Rattle.dr_ask.specs.declared.column.Column.{Column}
use Rattle.dr_ask.specs.declared.aggregation.Aggregation.{Aggregation}
use Rattle.dr_ask.specs.Asked.{Asked, is_scan}

-- a column that the schema lacks reads the same in each row
abbrev pub matches_optional : Kind → Option Column → Bool
matches_optional kind None = true
matches_optional kind (Some column) = matches_column kind column.kind

-- a count counts rows, which rollup makes fewer
abbrev pub matches_in : Kind → Option Column → Bool
matches_in Count column = false
matches_in LongSum column = matches_optional LongSum column
matches_in LongMin column = matches_optional LongMin column
matches_in LongMax column = matches_optional LongMax column

abbrev pub aggregation_matches : Aggregation → Bool
aggregation_matches a = matches_in a.kind a.column

abbrev pub all_match : List Aggregation → Bool
all_match aggregations = list_all aggregation_matches aggregations

-- a scan shows the rows themselves; without rollup each event is a row of its own, and every other query matches
abbrev pub is_matching : Asked → Bool
is_matching q = not (is_scan q.shape) && (not q.rollup || all_match q.aggregations)
