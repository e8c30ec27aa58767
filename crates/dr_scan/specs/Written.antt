-- The tokens of JSON that are written for a scan, row by row. No public contract cites this file.
use Rattle.std.specs.Prelude.{ℕ, ◌+◌, ◌==◌, List, [], ◌∷◌, ◌++◌, length, map, codes, Option, Some, None, if◌then◌else◌}
use Rattle.std.specs.List.{flat_map}
use Rattle.json.specs.Token.{Token, begin_object, end_object, begin_array, end_array, key}
use Rattle.serde_json.specs.Data.{Data, string, array, object, Members, no_members, member}
use Rattle.serde_json.specs.View.{items_of}
use Rattle.std.specs.BTreeMap.{insert_entry}
use Rattle.std.specs.Ordering.{nat_cmp}
use Rattle.std.specs.Cmp.Lexicographic.{slice_cmp}
use Rattle.dr_base.specs.declared.row.Row.{Row}
use Rattle.dr_ask.specs.declared.column_source.ColumnSource.{ColumnSource}
use Rattle.dr_ask.specs.declared.result_format.ResultFormat.{ResultFormat}
use Rattle.dr_ask.specs.declared.result_format.ResultFormat.TheVariants as format
use Rattle.dr_ask.specs.declared.scan.Scan.{Scan}
use Rattle.dr_ask.specs.declared.scan_column.ScanColumn.{ScanColumn}
use Rattle.dr_ask.specs.Asked.{Asked}
use Rattle.dr_answers.specs.Selection.{selected}
use Rattle.dr_writer.specs.Written.{data_tokens}
use Rattle.dr_scan.specs.declared.segment.Segment.{Segment}
use Rattle.dr_scan.specs.declared.window.Window.{Window}
use Rattle.dr_scan.specs.Entries.{Entry}
use Rattle.dr_scan.specs.ScanText.{data_in, identifier_data}
use Rattle.dr_scan.specs.Window.{after, given}

-- ---- the columns of an object in the order of their names

-- columns by their names, with others put in
abbrev pub with_sources : List (List ℕ × ColumnSource) → List ScanColumn → List (List ℕ × ColumnSource)
with_sources entries [] = entries
with_sources entries (c ∷ cs) = with_sources (insert_entry (slice_cmp nat_cmp) entries c.name c.source) cs

abbrev pub column_of : List ℕ × ColumnSource → ScanColumn
column_of e = record { name = e.0; source = e.1 }

-- ---- a row

-- the columns one after the other
abbrev pub members_in : List ScanColumn → Row → Members
members_in [] r = no_members
members_in (c ∷ cs) r = member c.name (data_in c.source r) (members_in cs r)

abbrev pub written_row : ResultFormat → List ScanColumn → Row → Data
written_row format.List columns r = object (members_in columns r)
written_row format.CompactedList columns r = array (items_of (map (λ c. data_in c.source r) columns))

abbrev pub row_tokens : ResultFormat → List ScanColumn → Row → List Token
row_tokens format columns r = data_tokens (written_row format columns r)

-- ---- an entry

-- what stands before its rows, and behind them
abbrev pub entry_front : List ScanColumn → List Token
entry_front columns = begin_object ∷ key (codes "columns") ∷ (data_tokens (array (items_of (map (λ c. string c.name) columns))) ++ key (codes "events") ∷ begin_array ∷ [])

abbrev pub entry_back : Option (List ℕ) → List Token
entry_back segment_id = end_array ∷ key (codes "segmentId") ∷ (data_tokens (identifier_data segment_id) ++ end_object ∷ [])

-- ---- entries row by row, where so many rows of the last one are written

-- before a row: an entry is begun where none is, or where the last one is full
abbrev pub before_row : List Token → List Token → ℕ → ℕ → List Token
before_row front back size count = if count == 0 then front else (if count == size then back ++ front else [])

abbrev pub count_with : ℕ → ℕ → ℕ
count_with size count = if count == 0 then 1 else (if count == size then 1 else count + 1)

-- behind the last row: the last entry is ended
abbrev pub at_end : List Token → ℕ → List Token
at_end back count = if count == 0 then [] else back

abbrev pub rows_on : List Token → List Token → (Row → List Token) → ℕ → ℕ → List Row → List Token
rows_on front back row size count [] = at_end back count
rows_on front back row size count (r ∷ rs) = before_row front back size count ++ (row r ++ rows_on front back row size (count_with size count) rs)

-- the entries of a segment
abbrev pub segment_tokens : Scan → List ScanColumn → List ℕ → ℕ → List Row → List Token
segment_tokens s columns identifier count rows =
    rows_on (entry_front s.columns) (entry_back (Some identifier)) (row_tokens s.result_format columns) s.batch_size count rows

-- the entries of segments, of which a window gives some rows
abbrev pub segments_tokens : Asked → Scan → List ScanColumn → Window → List Segment → List Token
segments_tokens q s columns w [] = []
segments_tokens q s columns w (g ∷ gs) =
    segment_tokens s columns g.identifier 0 (given w (selected q g.rows))
    ++ segments_tokens q s columns (after w (length (selected q g.rows))) gs

-- one entry of rows of all segments, where there are any
abbrev pub one_entry_tokens : Scan → List ScanColumn → List Row → List Token
one_entry_tokens s columns [] = []
one_entry_tokens s columns (r ∷ rs) = entry_front s.columns ++ (flat_map (row_tokens s.result_format columns) (r ∷ rs) ++ entry_back None)

-- ---- an entry

abbrev pub entry_tokens : Scan → List ScanColumn → Entry → List Token
entry_tokens s columns e = entry_front s.columns ++ (flat_map (row_tokens s.result_format columns) e.rows ++ entry_back e.segment_id)
