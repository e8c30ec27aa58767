-- What a timeline keeps of its chunks: the rows of each range. The public calls of this crate are stated by it, and no contract above it.
use Rattle.std.specs.Prelude.{◌≡◌, ℕ, ℤ, ◌+◌, ◌-◌, ◌<◌, Bool, nat_le, nat_lt, true, false, Option, Some, None, List, [], ◌∷◌, ◌++◌, length, map, take, drop, if◌then◌else◌}
use Rattle.std.specs.List.{AllByRecursion}
use Rattle.std.specs.Ordering.{int_cmp, match_ordering}
use Rattle.dr_base.specs.declared.event.Event.{Event}
use Rattle.dr_base.specs.declared.row.Row.{Row}
use Rattle.dr_schema.specs.declared.schema.Schema.{Schema}
use Rattle.dr_chunks.specs.declared.chunk.Chunk.{Chunk}
use Rattle.dr_fragment.specs.declared.fragment.Fragment.{Fragment}
use Rattle.dr_cuts.specs.declared.range_info.RangeInfo.{RangeInfo}
use Rattle.dr_chunks.specs.declared.sealed_range.SealedRange.{SealedRange}
use Rattle.dr_rollup.specs.Unrolled.{rolled_up}
use Rattle.dr_rollup.specs.OpenRows.{rows_with, with_rows}
use Rattle.dr_cuts.specs.Chunks.{chunk_list}
use Rattle.dr_cuts.specs.AtKey.{at_key, item_at}
use Rattle.dr_cuts.specs.State.{Range, Cut, Tile, open_from, open_events}
use Rattle.dr_chunks.specs.Ranges.{fragment_of}
pub use Rattle.dr_chunks.specs.Open.{index_of}

-- what a contract sees of a sealed range, of those of a chunk, and of a chunk
abbrev pub range_of : SealedRange → Range
range_of s = record { from = s.fragment.from; to = s.fragment.to; serial = s.serial; version = s.version }

abbrev pub ranges_of : Chunk → List Range
ranges_of c = map range_of c.sealed

abbrev pub cut_of : Chunk → Cut
cut_of c = record { chunk = c.start; sealed = ranges_of c; publications = c.publications }

-- the chunk holds the rows of its ranges
pub record Holds (schema : Schema) (es : List Event) (c : Chunk) : Type 0 where
  pub events : c.events ≡ length (chunk_list schema es c.start)
  pub tiled : Tile 0 c.events (ranges_of c)
  pub sealed : AllByRecursion (λ s. s.fragment ≡ fragment_of schema es c.start (range_of s)) c.sealed
  pub open_range : c.open_range ≡ index_of schema (rolled_up schema (open_events (chunk_list schema es c.start) (ranges_of c)))

-- its open range has fewer rows than are held in memory
abbrev pub HasFewRows : Schema → Chunk → Type 0
HasFewRows schema c = length c.open_range.rows < schema.limits.max_rows_in_memory

-- how many events of a chunk are in its open range
abbrev pub open_count : Chunk → ℕ
open_count c = c.events - open_from (ranges_of c)

abbrev pub total_open : List Chunk → ℕ
total_open [] = 0
total_open (c ∷ cs) = open_count c + total_open cs

-- a chunk without events
abbrev pub no_chunk : Schema → ℤ → Chunk
no_chunk schema k = record { start = k; events = 0; sealed = []; publications = 0; open_range = index_of schema [] }

-- a chunk with one more event in its open range
abbrev pub with_one : Event → Chunk → Chunk
with_one e c = record c { events = c.events + 1; open_range = with_rows c.open_range (rows_with c.open_range e) }

-- the open range of a chunk with its rows
abbrev pub open_fragment : Chunk → Fragment
open_fragment c = record { chunk = c.start; from = open_from (ranges_of c); to = c.events; rows = c.open_range.rows }

-- a sealed range as a snapshot shows it
abbrev pub info_of : SealedRange → RangeInfo
info_of s = record { chunk = s.fragment.chunk; from = s.fragment.from; to = s.fragment.to; version = s.version; rows = length s.fragment.rows; sealed = true }

-- the open range has an event
abbrev pub has_open : Chunk → Bool
has_open c = nat_lt (open_from (ranges_of c)) c.events

-- the open range as a snapshot shows it
abbrev pub open_info_of : Chunk → RangeInfo
open_info_of c = record { chunk = c.start; from = open_from (ranges_of c); to = c.events; version = 0; rows = length c.open_range.rows; sealed = false }

-- the ranges of a chunk as a snapshot shows them, and with their rows
abbrev pub infos_of_chunk : Chunk → List RangeInfo
infos_of_chunk c = map info_of c.sealed ++ (if has_open c then open_info_of c ∷ [] else [])

abbrev pub fragments_of_chunk : Chunk → List Fragment
fragments_of_chunk c = map (λ s. s.fragment) c.sealed ++ (if has_open c then open_fragment c ∷ [] else [])

-- its open range, up to the end of so many events and with these rows, as a sealed one
abbrev pub with_sealed_rows : ℕ → ℕ → List Row → Chunk → Chunk
with_sealed_rows serial events rows c = record {
  start = c.start;
  events = events;
  sealed = c.sealed ++ record { serial = serial; version = 0; fragment = record { chunk = c.start; from = open_from (ranges_of c); to = events; rows = rows } } ∷ [];
  publications = c.publications;
  open_range = with_rows c.open_range [];
}

abbrev pub with_open_sealed : ℕ → Chunk → Chunk
with_open_sealed serial c = with_sealed_rows serial c.events c.open_range.rows c

-- the open range holds as many rows as it may
abbrev pub is_full : Chunk → Bool
is_full c = nat_le c.open_range.limit (length c.open_range.rows)

-- so many ranges are sealed
abbrev pub seals_of : Bool → ℕ
seals_of full = if full then 1 else 0

abbrev pub sealed_if_full : ℕ → Chunk → Chunk
sealed_if_full serial c = if is_full c then with_open_sealed serial c else c

-- a chunk with one more event
abbrev pub grown : ℕ → Event → Chunk → Chunk
grown serial e c = sealed_if_full serial (with_one e c)

-- a range in the place of so many sealed ones, from a place on, with so many publications then
abbrev pub with_range : ℕ → ℕ → ℕ → SealedRange → Chunk → Chunk
with_range place count publications range c = record c { sealed = take place c.sealed ++ (range ∷ drop (place + count) c.sealed); publications = publications }

-- the chunk that starts so, changed; it may be new
abbrev pub at_start : Schema → (Chunk → Chunk) → ℤ → List Chunk → List Chunk
at_start schema change k cs = at_key (λ c. c.start) (no_chunk schema k) change k cs

-- the chunk that starts so; where there is none, one without events
abbrev pub chunk_at : Schema → ℤ → List Chunk → Chunk
chunk_at schema k cs = item_at (λ c. c.start) (no_chunk schema k) k cs

-- the chunk that starts so, where there is one
abbrev pub chunk_in : ℤ → List Chunk → Option Chunk
chunk_in k [] = None
chunk_in k (c ∷ cs) = match_ordering (int_cmp k c.start) None (Some c) (chunk_in k cs)
