-- Chunks of events: the buckets of the segment granularity (Apache Druid documentation, segments: time chunks).
use Rattle.std.specs.Prelude.{ℤ, List, [], ◌∷◌, filter}
use Rattle.std.specs.Ordering.{int_cmp, int_eq, match_ordering}
use Rattle.dr_base.specs.declared.event.Event.{Event}
use Rattle.dr_gran.specs.Truncation.{truncation}
use Rattle.dr_schema.specs.declared.schema.Schema.{Schema}

-- the chunk of an event, by the start of its bucket; the event's time is not truncated to the query granularity
abbrev pub chunk : Schema → Event → ℤ
chunk schema e = truncation schema.segment_granularity e.time

-- the list of a chunk: its events, in the order of acceptance
abbrev pub chunk_list : Schema → List Event → ℤ → List Event
chunk_list schema es k = filter (λ e. int_eq (chunk schema e) k) es

-- a rising list with one more value
unfoldable pub with_value : ℤ → List ℤ → List ℤ
with_value k [] = k ∷ []
with_value k (j ∷ js) = match_ordering (int_cmp k j) (k ∷ j ∷ js) (j ∷ js) (j ∷ with_value k js)

unfoldable pub values_onto : {A : Type 0} → (A → ℤ) → List ℤ → List A → List ℤ
values_onto f ks [] = ks
values_onto f ks (x ∷ xs) = values_onto f (with_value (f x) ks) xs

-- the chunks of events, each once, rising
abbrev pub chunks : Schema → List Event → List ℤ
chunks schema es = values_onto (chunk schema) [] es
