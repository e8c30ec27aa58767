-- The text of a scan's entries, as JSON (Apache Druid documentation, scan queries; RFC 8259). That an empty dimension value and an
-- unknown column are `null`, and the order of the keys, are this project's own.
use Rattle.std.specs.Prelude.{ℕ, List, [], ◌∷◌, map, codes, Option, Some, None}
use Rattle.serde_json.specs.Data.{Data, null, number, string, array, object, Members, member, no_members, put}
use Rattle.serde_json.specs.Find.{of_integer}
use Rattle.serde_json.specs.View.{items_of}
use Rattle.serde_json.specs.Written.{compact_text}
use Rattle.dr_agg.specs.Combination.{column}
use Rattle.dr_answers.specs.Answer.{dimension_data}
use Rattle.dr_base.specs.declared.row.Row.{Row}
use Rattle.dr_predicate.specs.Match.{value_at}
use Rattle.dr_ask.specs.declared.column_source.ColumnSource.{ColumnSource}
use Rattle.dr_ask.specs.declared.column_source.ColumnSource.TheVariants.{Time, Dimension, Metric, Unknown}
use Rattle.dr_ask.specs.declared.result_format.ResultFormat.{ResultFormat}
use Rattle.dr_ask.specs.declared.result_format.ResultFormat.TheVariants as format
use Rattle.dr_ask.specs.declared.scan.Scan.{Scan}
use Rattle.dr_ask.specs.declared.scan_column.ScanColumn.{ScanColumn}
use Rattle.dr_ask.specs.Asked.{Asked, AskedShape, timeseries, group_by, scan}
use Rattle.dr_scan.specs.declared.segment.Segment.{Segment}
use Rattle.dr_scan.specs.Entries.{Entry, entries}

-- what a column has of a row; a time is a number of milliseconds since the epoch
abbrev pub data_in : ColumnSource → Row → Data
data_in Time r = number (of_integer r.key.time)
data_in (Dimension place) r = dimension_data (value_at (Some place) r.key.dims)
data_in (Metric place) r = number (of_integer (column place r.metrics))
data_in Unknown r = null

-- an object's members with the columns of a row put in: names stand in ascending byte order
abbrev pub with_columns : Members → List ScanColumn → Row → Members
with_columns members [] r = members
with_columns members (c ∷ cs) r = with_columns (put c.name (data_in c.source r) members) cs r

-- a row: an object, or a list in the order of the columns
abbrev pub row_data : ResultFormat → List ScanColumn → Row → Data
row_data format.List columns r = object (with_columns no_members columns r)
row_data format.CompactedList columns r = array (items_of (map (λ c. data_in c.source r) columns))

abbrev pub identifier_data : Option (List ℕ) → Data
identifier_data None = null
identifier_data (Some identifier) = string identifier

-- `{"columns":[..],"events":[..],"segmentId":".."}`
abbrev pub entry_data : Scan → Entry → Data
entry_data s e = object (
    member (codes "columns") (array (items_of (map (λ c. string c.name) s.columns)))
    (member (codes "events") (array (items_of (map (row_data s.result_format s.columns) e.rows)))
    (member (codes "segmentId") (identifier_data e.segment_id) no_members)))

-- a list of them, without spaces; of no scan there are none
abbrev pub entries_data : AskedShape → List Entry → List Data
entries_data (timeseries t) entries = []
entries_data (group_by g) entries = []
entries_data (scan s) entries = map (entry_data s) entries

abbrev pub scan_text : Asked → List Entry → List ℕ
scan_text q entries = compact_text (array (items_of (entries_data q.shape entries)))

-- the text of a scan over segments
abbrev pub scanned : Asked → List Segment → List ℕ
scanned q segments = scan_text q (entries q segments)
