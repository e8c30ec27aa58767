-- A job that is planned can be worked on: its inputs are adjacent ranges of its chunk, and each has an image.
use Rattle.std.proofs.Common.{◌≡◌, ◌∙◌, sym, refl, ap, subst, ℕ, ℤ, ◌-◌, ◌^◌, ◌<◌, ◌≤◌, ◌≤ℤ◌, true, false, cond, List, [], ◌∷◌, length, map, take, drop, FitsSigned, arith}
use Rattle.std.specs.Int.{w64}
use Rattle.std.specs.Str.{IsUtf8}
use Rattle.std.specs.List.{AllByRecursion}
use Rattle.std.specs.Ordering.{int_eq}
use Rattle.std.proofs.lemmas.Int.{ints}
use Rattle.std.proofs.lemmas.Bool.Decides.{Decides-int_eq}
use Rattle.std.proofs.lemmas.List.{length-map, length-take, length-drop, take-append-drop}
use Rattle.std.proofs.lemmas.List.Elements.{All-from_recursion, recursion_from_All}
use Rattle.dr_base.specs.declared.event.Event.{Event}
use Rattle.dr_time.specs.Instant.{IsInstant}
use Rattle.dr_gran.specs.Truncation.{truncation}
use Rattle.dr_gran.proofs.TruncationLemmas.{truncation_bounds}
use Rattle.dr_gran.proofs.NestingLemmas.{truncation-nested}
use Rattle.dr_agg.specs.declared.kind.Kind.{Kind}
use Rattle.dr_agg.specs.declared.kind.Kind.TheVariants.{Count, LongSum, LongMin, LongMax}
use Rattle.dr_agg.specs.Combination.{column}
use Rattle.dr_schema.specs.Columns.{kinds_of}
use Rattle.dr_schema.specs.Fits.{FitsSchema}
use Rattle.dr_schema.specs.WellFormed.{IsWellFormed}
use Rattle.dr_schema.specs.declared.schema.Schema.{Schema}
use Rattle.dr_schema.specs.declared.metric.Metric.{Metric}
use Rattle.dr_rollup.specs.Unrolled.{contribution, contributions, unrolled}
use Rattle.dr_rollup.proofs.Contributing.{length-contributions}
use Rattle.dr_image.specs.Sealed.{HasImage, IsRowOf}
use Rattle.dr_merge.specs.declared.purpose.Purpose.{Purpose}
use Rattle.dr_merge.specs.Joined.{IsJobOf, AreAdjacent, sealed_fragment}
use Rattle.dr_merge.proofs.Rolled.{frame, IsFramed, rollup_has_image}
use Rattle.dr_cuts.specs.Chunks.{chunk, chunk_list}
use Rattle.dr_cuts.specs.State.{Range, Tile, events_of, sealed_in}
use Rattle.dr_cuts.proofs.Tiles.{end_from, tile-right, tile-left, tile-end, tile-start}
use Rattle.dr_chunks.specs.declared.chunk.Chunk.{Chunk}
use Rattle.dr_chunks.specs.Held.{chunk_at, cut_of}
use Rattle.dr_chunks.specs.Ranges.{fragment_of}
use Rattle.dr_chunks.proofs.Changes.{sealed_in-cuts}
use Rattle.dr_timeline.specs.Kept.{Keeps, HasTexts}
use Rattle.dr_timeline.specs.Steps.{job_of}
use Rattle.dr_timeline.proofs.Keeping.{holds-chunk_at, length-filter}
use Rattle.dr_timeline.proofs.Standing.{seen, All-part}

-- ---- one event

contribution-fits : (k : Kind) (input : ℤ) → FitsSigned w64 input → FitsSigned w64 (contribution k input)
contribution-fits Count input fits = omega (arith, ints)
contribution-fits LongSum input fits = fits
contribution-fits LongMin input fits = fits
contribution-fits LongMax input fits = fits

input-fits : (inputs : List ℤ) → AllByRecursion (FitsSigned w64) inputs → FitsSigned w64 (column 0 inputs)
input-fits [] all = omega (arith, ints)
input-fits (x ∷ xs) all = all.0

rest-fits : (inputs : List ℤ) → AllByRecursion (FitsSigned w64) inputs → AllByRecursion (FitsSigned w64) (drop 1 inputs)
rest-fits [] all = tt
rest-fits (x ∷ xs) all = all.1

contributions-fit : (ks : List Kind) (inputs : List ℤ) → AllByRecursion (FitsSigned w64) inputs → AllByRecursion (FitsSigned w64) (contributions ks inputs)
contributions-fit [] inputs all = tt
contributions-fit (k ∷ ks) inputs all = (contribution-fits k (column 0 inputs) (input-fits inputs all), contributions-fit ks (drop 1 inputs) (rest-fits inputs all))

-- what holds of the events of a chunk
pub record IsOfChunk (schema : Schema) (k : ℤ) (e : Event) : Type 0 where
  pub fit : FitsSchema schema e
  pub texts : HasTexts e
  pub there : k ≡ chunk schema e

-- its chunk begins at a time that an event may have, and not after its truncated time
starts : (schema : Schema) (e : Event) → IsWellFormed schema → IsInstant e.time → IsInstant (truncation schema.query_granularity e.time) × IsInstant (chunk schema e) × (chunk schema e ≤ℤ truncation schema.query_granularity e.time)
starts schema e formed time =
    let t : ℤ = truncation schema.query_granularity e.time in
    let s : ℤ = truncation schema.segment_granularity t in
    let fine = truncation_bounds schema.query_granularity e.time t time refl in
    let instant : IsInstant t = (fine.0, omega (arith, ints, fine.1, time.1)) in
    let coarse = truncation_bounds schema.segment_granularity t s instant refl in
    let same : s ≡ chunk schema e = truncation-nested schema.query_granularity schema.segment_granularity formed.nests_in e.time time.0 in
    let start : IsInstant s = (coarse.0, omega (arith, ints, coarse.1, instant.1)) in
    (instant, subst IsInstant same start, subst (λ z. z ≤ℤ t) same coarse.1)

row-framed : (schema : Schema) (k : ℤ) (e : Event) → IsWellFormed schema → IsOfChunk schema k e → IsRowOf (frame schema k) (unrolled schema e)
row-framed schema k e formed of =
    let at = starts schema e formed of.fit.time in record {
      dims = of.fit.dims;
      texts = All-from_recursion IsUtf8 e.dims of.texts;
      metrics = length-contributions (kinds_of schema) e.inputs ∙ length-map schema.metrics (λ (m : Metric). m.kind);
      in_range = All-from_recursion (FitsSigned w64) (contributions (kinds_of schema) e.inputs) (contributions-fit (kinds_of schema) e.inputs (recursion_from_All (FitsSigned w64) e.inputs of.fit.in_range));
      time = at.0;
      in_chunk = subst (λ z. z ≤ℤ truncation schema.query_granularity e.time) (sym of.there) at.2;
    }

rows-framed : (schema : Schema) (k : ℤ) (es : List Event) → IsWellFormed schema → AllByRecursion (IsOfChunk schema k) es → AllByRecursion (IsRowOf (frame schema k)) (map (unrolled schema) es)
rows-framed schema k [] formed all = tt
rows-framed schema k (e ∷ es) formed all = (row-framed schema k e formed all.0, rows-framed schema k es formed all.1)

first-start : (schema : Schema) (k : ℤ) (es : List Event) → IsWellFormed schema → 1 ≤ length es → AllByRecursion (IsOfChunk schema k) es → IsInstant k
first-start schema k [] formed some all = absurd (omega arith)
first-start schema k (e ∷ es) formed some all = subst IsInstant (sym all.0.there) (starts schema e formed all.0.fit.time).1

-- ---- the list of a chunk

list-of : (schema : Schema) (k : ℤ) (es : List Event) → AllByRecursion (FitsSchema schema) es → AllByRecursion HasTexts es → AllByRecursion (IsOfChunk schema k) (chunk_list schema es k)
list-of schema k [] fit texts = tt
list-of schema k (e ∷ es) fit texts =
    let rest = list-of schema k es fit.1 texts.1 in
    elim (int_eq (chunk schema e) k) as (λ b. int_eq (chunk schema e) k ≡ b → AllByRecursion (IsOfChunk schema k) (cond b (e ∷ chunk_list schema es k) (chunk_list schema es k)))
    [ true ↦ λ h. (record { fit = fit.0; texts = texts.0; there = sym ((Decides-int_eq (chunk schema e) k).0 h) }, rest) | false ↦ λ h. rest ] refl

-- ---- a range of it

range-has_image : (schema : Schema) (es : List Event) (k : ℤ) (r : Range) → IsWellFormed schema → AllByRecursion (FitsSchema schema) es → AllByRecursion HasTexts es → length es ≤ schema.limits.max_retained
    → r.from < r.to → r.to ≤ length (chunk_list schema es k) → HasImage (sealed_fragment schema (fragment_of schema es k r))
range-has_image schema es k r formed fit texts few some within =
    let l : List Event = chunk_list schema es k in
    let part : List Event = events_of l r in
    let of = All-part (IsOfChunk schema k) l r.from (r.to - r.from) (list-of schema k es fit texts) in
    let rest = length-drop r.from l in
    let taken = length-take (r.to - r.from) (drop r.from l) in
    let count : length part ≡ r.to - r.from = omega arith in
    let long : length (map (unrolled schema) part) ≡ r.to - r.from = length-map part (unrolled schema) ∙ count in
    let less = length-filter (λ e. int_eq (chunk schema e) k) es in
    let most = formed.limits.few_retained in
    let big : 18446744073709551616 ≡ 2 ^ 64 = refl in
    let end : r.to < 18446744073709551616 = omega arith in
    let start : r.from < 18446744073709551616 = omega arith in
    let framed : IsFramed schema k r.from r.to = record {
      some_dimension = formed.some_dimension;
      few_dimensions = formed.few_dimensions;
      few_metrics = formed.few_metrics;
      chunk = first-start schema k part formed (omega arith) of;
      from_fits = subst (λ n. r.from < n) big start;
      to_fits = subst (λ n. r.to < n) big end;
    } in
    rollup_has_image schema k r.from r.to (map (unrolled schema) part) framed (omega arith) (omega arith) (λ apart. long) (rows-framed schema k part formed of)

-- ---- adjacent ranges

adjacent : (schema : Schema) (es : List Event) (k : ℤ) (from end : ℕ) (rs : List Range) → Tile from end rs → AreAdjacent (map (fragment_of schema es k) rs)
adjacent schema es k from end [] tiled = tt
adjacent schema es k from end (r ∷ []) tiled = tt
adjacent schema es k from end (r ∷ s ∷ rs) tiled = (sym tiled.2.0, adjacent schema es k r.to end (s ∷ rs) tiled.2)

of-chunk : (schema : Schema) (es : List Event) (k : ℤ) (rs : List Range) → AllByRecursion (λ f. f.chunk ≡ k) (map (fragment_of schema es k) rs)
of-chunk schema es k [] = tt
of-chunk schema es k (r ∷ rs) = (refl, of-chunk schema es k rs)

have-images : (schema : Schema) (es : List Event) (k : ℤ) (from end : ℕ) (rs : List Range) → IsWellFormed schema → AllByRecursion (FitsSchema schema) es → AllByRecursion HasTexts es → length es ≤ schema.limits.max_retained
    → Tile from end rs → end ≤ length (chunk_list schema es k) → AllByRecursion (λ f. HasImage (sealed_fragment schema f)) (map (fragment_of schema es k) rs)
have-images schema es k from end [] formed fit texts few tiled within = tt
have-images schema es k from end (r ∷ rs) formed fit texts few tiled within =
    let past = tile-start r.to end rs tiled.2 in
    let upto = tile-end r.to end rs tiled.2 in
    (range-has_image schema es k r formed fit texts few tiled.1 (omega arith), have-images schema es k r.to end rs formed fit texts few tiled.2 within)

tile-part : (end : ℕ) (rs : List Range) (place count : ℕ) → Tile 0 end rs → Tile (end_from 0 (take place rs)) end (take count (drop place rs))
tile-part end rs place count tiled =
    let at : ℕ = end_from 0 (take place rs) in
    let rest = tile-right 0 end (take place rs) (drop place rs) (subst (λ (xs : List Range). Tile 0 end xs) (sym (take-append-drop place rs)) tiled) in
    tile-left at end (take count (drop place rs)) (drop count (drop place rs)) (subst (λ (xs : List Range). Tile at end xs) (sym (take-append-drop count (drop place rs))) rest)

-- ---- a job

pub planned-works : (schema : Schema) (es : List Event) (cs : List Chunk) (seals commits serials lost thrown : ℕ) (k : ℤ) (lo hi : ℕ) (purpose : Purpose) → Keeps schema es cs seals commits → lo < hi
    → hi ≤ length (sealed_in k (seen schema es cs serials commits lost thrown).cuts) → IsJobOf schema (job_of (seen schema es cs serials commits lost thrown) k lo hi purpose)
planned-works schema es cs seals commits serials lost thrown k lo hi purpose kept some within =
    let sealed : List Range = sealed_in k (map cut_of cs) in
    let rs : List Range = take (hi - lo) (drop lo sealed) in
    let c : Chunk = chunk_at schema k cs in
    let held = holds-chunk_at schema es cs k kept.starts kept.each in
    let tiled : Tile 0 c.events sealed = subst (λ (xs : List Range). Tile 0 c.events xs) (sym (sealed_in-cuts schema cs k)) held.0.tiled in
    let part = tile-part c.events sealed lo (hi - lo) tiled in
    let end : c.events ≡ length (chunk_list schema es k) = held.0.events ∙ ap (λ j. length (chunk_list schema es j)) held.1 in
    let rest = length-drop lo sealed in
    let taken = length-take (hi - lo) (drop lo sealed) in
    let inputs = length-map rs (fragment_of schema es k) in
    let numbers = length-map rs (λ (r : Range). r.serial) in
    record {
      some = omega arith;
      serials = omega arith;
      chunk = of-chunk schema es k rs;
      adjacent = adjacent schema es k (end_from 0 (take lo sealed)) c.events rs part;
      images = have-images schema es k (end_from 0 (take lo sealed)) c.events rs kept.formed kept.fit kept.texts kept.retained part (omega arith);
    }
