-- What a snapshot is: the events that were accepted before a pin, and the ranges that their chunks were cut into.
use Rattle.std.specs.Prelude.{ℕ, ℤ, ◌-◌, nat_lt, true, false, List, [], ◌∷◌, ◌++◌, length, map, take, drop, if◌then◌else◌}
use Rattle.std.specs.List.{flat_map}
use Rattle.dr_base.specs.declared.event.Event.{Event}
use Rattle.dr_base.specs.declared.row.Row.{Row}
use Rattle.dr_schema.specs.declared.schema.Schema.{Schema}
use Rattle.dr_cuts.specs.declared.range_info.RangeInfo.{RangeInfo}
use Rattle.dr_rollup.specs.Unrolled.{rolled_up}
use Rattle.dr_cuts.specs.Chunks.{chunk_list}
use Rattle.dr_cuts.specs.State.{Range, Cut, State, open_from, events_of}

-- a snapshot: its schema, its events in order, and the ranges, chunks rising, each chunk's in order
pub record Pinned : Type 0 where
  pub schema : Schema
  pub stream : List Event
  pub ranges : List RangeInfo

-- a sealed range, with the number of its rows
abbrev pub sealed_info : Schema → List Event → ℤ → Range → RangeInfo
sealed_info schema es k range = record {
  chunk = k;
  from = range.from;
  to = range.to;
  version = range.version;
  rows = length (rolled_up schema (events_of (chunk_list schema es k) range));
  sealed = true;
}

-- the open range of a chunk, from there on
abbrev pub open_info : Schema → List Event → ℤ → ℕ → RangeInfo
open_info schema es k from = record {
  chunk = k;
  from = from;
  to = length (chunk_list schema es k);
  version = 0;
  rows = length (rolled_up schema (drop from (chunk_list schema es k)));
  sealed = false;
}

-- the ranges of a chunk: the sealed ones, then the open one where it isn't empty
abbrev pub infos_of_cut : Schema → List Event → Cut → List RangeInfo
infos_of_cut schema es cut =
    map (sealed_info schema es cut.chunk) cut.sealed
    ++ (if nat_lt (open_from cut.sealed) (length (chunk_list schema es cut.chunk)) then open_info schema es cut.chunk (open_from cut.sealed) ∷ [] else [])

abbrev pub infos : Schema → List Event → List Cut → List RangeInfo
infos schema es cuts = flat_map (infos_of_cut schema es) cuts

-- what is pinned
abbrev pub pinned : State → Pinned
pinned s = record { schema = s.schema; stream = s.stream; ranges = infos s.schema s.stream s.cuts }

-- the events of a range, and its rows
abbrev pub events_in : Schema → List Event → RangeInfo → List Event
events_in schema es range = take (range.to - range.from) (drop range.from (chunk_list schema es range.chunk))

-- the rows over ranges, one range after another: each is the rollup of its events
abbrev pub rows_over : Schema → List Event → List RangeInfo → List Row
rows_over schema es ranges = flat_map (λ range. rolled_up schema (events_in schema es range)) ranges

-- the rows of a snapshot
abbrev pub rows_of : Pinned → List Row
rows_of p = rows_over p.schema p.stream p.ranges
