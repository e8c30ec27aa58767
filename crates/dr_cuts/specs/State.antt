-- What a timeline is: a list of events, and where the list of each chunk is cut into ranges (Apache Druid documentation,
-- segments; ingestion: persists, merges).
use Rattle.std.specs.Prelude.{◌≡◌, ℕ, ℤ, ◌-◌, ◌<◌, ◌≤◌, List, [], ◌∷◌, length, map, take, drop, fold}
use Rattle.std.specs.List.{AllByRecursion}
use Rattle.std.specs.Ordering.{int_cmp, match_ordering}
use Rattle.dr_base.specs.declared.event.Event.{Event}
use Rattle.dr_schema.specs.declared.schema.Schema.{Schema}
use Rattle.dr_cuts.specs.Chunks.{chunk_list, chunks}
use Rattle.dr_cuts.specs.AtKey.{at_key}

-- a sealed range [from, to) of a chunk's list, with the number of seals and commits before it, and its version, which is
-- 0 until it is published
pub record Range : Type 0 where
  pub from : ℕ
  pub to : ℕ
  pub serial : ℕ
  pub version : ℕ

-- the cuts of a chunk: its sealed ranges, in order, and how many publications there were; behind the sealed ranges its
-- list is open
pub record Cut : Type 0 where
  pub chunk : ℤ
  pub sealed : List Range
  pub publications : ℕ

-- a timeline: its schema, the accepted events in order, the cuts of each of their chunks, chunks rising, how many seals
-- and commits there were, how many of these were commits, and how many inputs were noted as unparseable and as thrown away
pub record State : Type 0 where
  pub schema : Schema
  pub stream : List Event
  pub cuts : List Cut
  pub serials : ℕ
  pub commits : ℕ
  pub unparseable : ℕ
  pub thrown_away : ℕ

-- nothing is accepted yet
abbrev pub empty_state : Schema → State
empty_state schema = record { schema = schema; stream = []; cuts = []; serials = 0; commits = 0; unparseable = 0; thrown_away = 0 }

-- where the open range starts: where the last sealed one ends
abbrev pub open_from : List Range → ℕ
open_from sealed = fold (λ from range. range.to) 0 sealed

-- the events of a range of a chunk's list, and those of its open range
abbrev pub events_of : List Event → Range → List Event
events_of es range = take (range.to - range.from) (drop range.from es)

abbrev pub open_events : List Event → List Range → List Event
open_events es sealed = drop (open_from sealed) es

-- the sealed ranges of a chunk; none where it has no event
abbrev pub sealed_in : ℤ → List Cut → List Range
sealed_in k [] = []
sealed_in k (c ∷ cs) = match_ordering (int_cmp k c.chunk) [] c.sealed (sealed_in k cs)

-- a chunk of which nothing is sealed
abbrev pub open_cut : ℤ → Cut
open_cut k = record { chunk = k; sealed = []; publications = 0 }

-- the cuts, with those of one chunk changed; the chunk may be new
abbrev pub at_chunk : ℤ → (Cut → Cut) → List Cut → List Cut
at_chunk k change cuts = at_key (λ c. c.chunk) (open_cut k) change k cuts

-- ranges tile a list of that length, from a place on: none is empty, each begins where the one before ends
abbrev pub Tile : ℕ → ℕ → List Range → Type 0
Tile from end [] = from ≤ end
Tile from end (range ∷ ranges) = (range.from ≡ from) × (range.from < range.to) × Tile range.to end ranges

-- the sealed ranges of a chunk tile its list
abbrev pub IsTiled : Schema → List Event → Cut → Type 0
IsTiled schema es cut = Tile 0 (length (chunk_list schema es cut.chunk)) cut.sealed

-- the cuts are those of the chunks of these events, chunks rising, each list tiled
pub record AreCuts (schema : Schema) (es : List Event) (cuts : List Cut) : Type 0 where
  pub chunks : map (λ c. c.chunk) cuts ≡ chunks schema es
  pub tiled : AllByRecursion (IsTiled schema es) cuts
