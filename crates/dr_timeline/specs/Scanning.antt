-- What a scan reads of a snapshot: its ranges as segments (Apache Druid documentation, segments; scan queries).
use Rattle.std.specs.Prelude.{ℕ, List, [], ◌∷◌, ◌++◌, length, filter}
use Rattle.std.specs.Ordering.{int_eq}
use Rattle.dr_base.specs.declared.event.Event.{Event}
use Rattle.dr_schema.specs.declared.schema.Schema.{Schema}
use Rattle.dr_rollup.specs.Unrolled.{rolled_up}
use Rattle.dr_ask.specs.Asked.{Asked}
use Rattle.dr_scan.specs.Identified.{Identified}
use Rattle.dr_scan.specs.Identifier.{identifier_of}
use Rattle.dr_scan.specs.ScanText.{scanned}
use Rattle.dr_cuts.specs.declared.range_info.RangeInfo.{RangeInfo}
use Rattle.dr_cuts.specs.Segments.{Pinned, events_in}

-- the place of a range in its chunk, from 0: how many ranges of the chunk stand before it
abbrev pub place_behind : List RangeInfo → RangeInfo → ℕ
place_behind before range = length (filter (λ r. int_eq r.chunk range.chunk) before)

-- a range at that place of its chunk, with the rollup of its events
abbrev pub segment_at : Schema → List Event → ℕ → RangeInfo → Identified
segment_at schema es place range = record {
  identifier = identifier_of schema range.chunk range.version place;
  rows = rolled_up schema (events_in schema es range);
}

-- ranges in turn, behind others
abbrev pub segments_behind : Schema → List Event → List RangeInfo → List RangeInfo → List Identified
segments_behind schema es before [] = []
segments_behind schema es before (r ∷ rs) = segment_at schema es (place_behind before r) r ∷ segments_behind schema es (before ++ r ∷ []) rs

-- the segments of a snapshot
abbrev pub segments_of : Pinned → List Identified
segments_of p = segments_behind p.schema p.stream [] p.ranges

-- the text of a scan of a snapshot
abbrev pub scan_over : Asked → Pinned → List ℕ
scan_over q p = scanned q (segments_of p)
