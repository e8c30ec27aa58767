-- What is pinned of the chunks of a timeline.
use Rattle.std.proofs.Common.{◌≡◌, ◌∙◌, sym, refl, ap, subst, ℕ, ℤ, ◌-◌, Bool, true, false, List, [], ◌∷◌, ◌++◌, length, map, drop, take, cond, nat_lt, Option, Some, None, ◌<◌, ◌+◌, slice_get, arith}
use Rattle.std.specs.List.{flat_map, fold, AllByRecursion}
use Rattle.dr_answers.specs.Span.{wider, span}
use Rattle.std.proofs.lemmas.Option.{get_or_from_slice_get}
use Rattle.dr_schema.specs.Fits.{FitsSchema}
use Rattle.dr_cuts.proofs.Each.{All-at}
use Rattle.dr_chunks.proofs.Blocks.{taken-more}
use Rattle.std.proofs.lemmas.List.{map-append, take_all, length-drop}
use Rattle.dr_base.specs.declared.event.Event.{Event}
use Rattle.dr_base.specs.declared.row.Row.{Row}
use Rattle.dr_agg.specs.Rollup.{all_rows}
use Rattle.dr_schema.specs.declared.schema.Schema.{Schema}
use Rattle.dr_rollup.specs.OpenRows.{OpenRows}
use Rattle.dr_chunks.specs.declared.chunk.Chunk.{Chunk}
use Rattle.dr_cuts.specs.declared.range_info.RangeInfo.{RangeInfo}
use Rattle.dr_chunks.specs.declared.sealed_range.SealedRange.{SealedRange}
use Rattle.dr_rollup.specs.Unrolled.{rolled_up, unrolled}
use Rattle.dr_cuts.specs.Chunks.{chunk_list, chunks}
use Rattle.dr_cuts.specs.State.{Tile, AreCuts, IsTiled, open_from}
use Rattle.dr_chunks.specs.Ranges.{fragment_of}
use Rattle.dr_cuts.specs.Segments.{sealed_info, open_info, infos_of_cut, infos, events_in, rows_over}
use Rattle.dr_fragment.specs.declared.fragment.Fragment.{Fragment}
use Rattle.dr_chunks.specs.Held.{range_of, ranges_of, cut_of, info_of, has_open, infos_of_chunk, fragments_of_chunk, open_fragment, Holds}

-- the rows of a range
abbrev pub rows_of_range : Schema → List Event → RangeInfo → List Row
rows_of_range schema es r = rolled_up schema (events_in schema es r)

-- the rows of fragments
abbrev pub rows_in : List Fragment → List (List Row)
rows_in fs = map (λ f. f.rows) fs

-- ---- one chunk

infos-sealed : (schema : Schema) (es : List Event) (k : ℤ) (ss : List SealedRange) → AllByRecursion (λ s. s.fragment ≡ fragment_of schema es k (range_of s)) ss → map info_of ss ≡ map (sealed_info schema es k) (map range_of ss)
infos-sealed schema es k [] h = refl
infos-sealed schema es k (s ∷ ss) h = λ i. record { chunk = (h.0 i).chunk; from = (range_of s).from; to = (range_of s).to; version = s.version; rows = length (h.0 i).rows; sealed = true } ∷ infos-sealed schema es k ss h.1 i

rows-sealed : (schema : Schema) (es : List Event) (k : ℤ) (ss : List SealedRange) → AllByRecursion (λ s. s.fragment ≡ fragment_of schema es k (range_of s)) ss
    → rows_in (map (λ s. s.fragment) ss) ≡ map (rows_of_range schema es) (map (sealed_info schema es k) (map range_of ss))
rows-sealed schema es k [] h = refl
rows-sealed schema es k (s ∷ ss) h = λ i. (h.0 i).rows ∷ rows-sealed schema es k ss h.1 i

pub infos-chunk : (schema : Schema) (es : List Event) (c : Chunk) → Holds schema es c → infos_of_chunk c ≡ infos_of_cut schema es (cut_of c)
infos-chunk schema es c held =
    let from : ℕ = open_from (ranges_of c) in
    λ i. infos-sealed schema es c.start c.sealed held.sealed i
    ++ cond (nat_lt from (held.events i)) (record { chunk = c.start; from = from; to = held.events i; version = 0; rows = length (held.open_range i).rows; sealed = false } ∷ []) []

open-rows : (schema : Schema) (es : List Event) (c : Chunk) → Holds schema es c → c.open_range.rows ≡ rows_of_range schema es (open_info schema es c.start (open_from (ranges_of c)))
open-rows schema es c held =
    let from : ℕ = open_from (ranges_of c) in
    let l : List Event = chunk_list schema es c.start in
    let long : length (drop from l) ≡ length l - from = length-drop from l in
    ap (λ (x : OpenRows). x.rows) held.open_range ∙ ap (rolled_up schema) (sym (take_all (length l - from) (drop from l) (omega arith)))

pub rows-chunk : (schema : Schema) (es : List Event) (c : Chunk) → Holds schema es c → rows_in (fragments_of_chunk c) ≡ map (rows_of_range schema es) (infos_of_cut schema es (cut_of c))
rows-chunk schema es c held =
    let from : ℕ = open_from (ranges_of c) in
    let rest : (a b : Bool) → a ≡ b → rows_in (cond a (open_fragment c ∷ []) []) ≡ map (rows_of_range schema es) (cond b (open_info schema es c.start from ∷ []) []) = λ a b e.
    ap (λ x. rows_in (cond x (open_fragment c ∷ []) [])) e ∙ elim b as (λ x. rows_in (cond x (open_fragment c ∷ []) []) ≡ map (rows_of_range schema es) (cond x (open_info schema es c.start from ∷ []) []))
    [ true ↦ ap (λ (rs : List Row). rs ∷ []) (open-rows schema es c held) | false ↦ refl ] in
    map-append (λ (f : Fragment). f.rows) (map (λ s. s.fragment) c.sealed) (cond (has_open c) (open_fragment c ∷ []) [])
    ∙ (λ i. rows-sealed schema es c.start c.sealed held.sealed i ++ rest (has_open c) (nat_lt from (length (chunk_list schema es c.start))) (ap (nat_lt from) held.events) i)
    ∙ sym (map-append (rows_of_range schema es) (map (sealed_info schema es c.start) (ranges_of c)) _)

-- ---- all chunks

pub infos-chunks : (schema : Schema) (es : List Event) (cs : List Chunk) → AllByRecursion (Holds schema es) cs → flat_map infos_of_chunk cs ≡ infos schema es (map cut_of cs)
infos-chunks schema es [] h = refl
infos-chunks schema es (c ∷ cs) h = λ i. infos-chunk schema es c h.0 i ++ infos-chunks schema es cs h.1 i

pub rows-chunks : (schema : Schema) (es : List Event) (cs : List Chunk) → AllByRecursion (Holds schema es) cs → rows_in (flat_map fragments_of_chunk cs) ≡ map (rows_of_range schema es) (infos schema es (map cut_of cs))
rows-chunks schema es [] h = refl
rows-chunks schema es (c ∷ cs) h =
    map-append (λ (f : Fragment). f.rows) (fragments_of_chunk c) (flat_map fragments_of_chunk cs)
    ∙ (λ i. rows-chunk schema es c h.0 i ++ rows-chunks schema es cs h.1 i)
    ∙ sym (map-append (rows_of_range schema es) (infos_of_cut schema es (cut_of c)) (infos schema es (map cut_of cs)))

tiled-chunks : (schema : Schema) (es : List Event) (cs : List Chunk) → AllByRecursion (Holds schema es) cs → AllByRecursion (IsTiled schema es) (map cut_of cs)
tiled-chunks schema es [] h = tt
tiled-chunks schema es (c ∷ cs) h = (coe 0 1 (i. Tile 0 (h.0.events i) (ranges_of c)) h.0.tiled, tiled-chunks schema es cs h.1)

starts-cuts : (cs : List Chunk) → map (λ c. c.chunk) (map cut_of cs) ≡ map (λ c. c.start) cs
starts-cuts [] = refl
starts-cuts (c ∷ cs) = ap (λ ks. c.start ∷ ks) (starts-cuts cs)

pub are-cuts : (schema : Schema) (es : List Event) (cs : List Chunk) → map (λ c. c.start) cs ≡ chunks schema es → AllByRecursion (Holds schema es) cs → AreCuts schema es (map cut_of cs)
are-cuts schema es cs starts h = record { chunks = starts-cuts cs ∙ starts; tiled = tiled-chunks schema es cs h }

-- ---- the rows that are held

flat-all : {A : Type 0} (f : A → List Row) (xs : List A) → flat_map f xs ≡ all_rows (map f xs)
flat-all f [] = refl
flat-all f (x ∷ xs) = ap (λ rs. f x ++ rs) (flat-all f xs)

pub held-rows : (schema : Schema) (es : List Event) (held : List (List Row)) (ranges : List RangeInfo) → held ≡ map (rows_of_range schema es) ranges → all_rows held ≡ rows_over schema es ranges
held-rows schema es held ranges h = ap all_rows h ∙ sym (flat-all (rows_of_range schema es) ranges)

-- ---- the span of events

abbrev span_of_row : Row → Option (ℤ × ℤ)
span_of_row r = Some (r.key.time, r.key.time)

pushed : (from : Option (ℤ × ℤ)) (rows : List Row) (r : Row) → fold wider from (map span_of_row (rows ++ r ∷ [])) ≡ wider (fold wider from (map span_of_row rows)) (span_of_row r)
pushed from [] r = refl
pushed from (x ∷ xs) r = pushed (wider from (span_of_row x)) xs r

-- the span of one more event
pub span-more : (schema : Schema) (es : List Event) (place : ℕ) (e : Event) → place < length es → slice_get es place ≡ Some e
    → span (map (unrolled schema) (take (place + 1) es)) ≡ wider (span (map (unrolled schema) (take place es))) (span_of_row (unrolled schema e))
span-more schema es place e lt at =
    ap (λ l. span (map (unrolled schema) l)) (taken-more es place e lt at) ∙ ap span (map-append (unrolled schema) (take place es) (e ∷ []))
    ∙ pushed None (map (unrolled schema) (take place es)) (unrolled schema e)

-- an event that stands there fits the schema
pub lies-in : (s : Schema) (es : List Event) (place : ℕ) (e : Event) → place < length es → slice_get es place ≡ Some e → AllByRecursion (FitsSchema s) es → FitsSchema s e
lies-in s es place e lt at all = subst (FitsSchema s) (get_or_from_slice_get es place e e at) (All-at (FitsSchema s) es place e lt all)
