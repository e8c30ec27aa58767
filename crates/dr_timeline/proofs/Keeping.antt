-- What a timeline keeps after one more event, after a seal, and after a merge.
use Rattle.std.proofs.Common.{◌≡◌, ◌∙◌, sym, refl, ap, subst, ℕ, ℤ, ◌+◌, ◌-◌, ◌<◌, ◌≤◌, Bool, true, false, List, [], ◌∷◌, ◌++◌, length, map, take, drop, filter, suc, cond, nat_le, arith, None}
use Rattle.std.specs.List.{AllByRecursion}
use Rattle.std.specs.List.Sorted.{IsStrictlySortedBy}
use Rattle.std.specs.declared.cmp.Ordering.TheVariants.{Less, Equal, Greater}
use Rattle.std.specs.Ordering.{int_cmp, int_eq, match_ordering}
use Rattle.std.proofs.lemmas.Bool.Decides.{nat_tests}
use Rattle.std.proofs.lemmas.List.{map-append, drop_all, length-drop, length_push}
use Rattle.dr_base.specs.declared.event.Event.{Event}
use Rattle.dr_agg.specs.Rollup.{rollup_onto}
use Rattle.dr_schema.specs.Fits.{FitsSchema}
use Rattle.dr_schema.specs.WellFormed.{IsWellFormed}
use Rattle.dr_schema.specs.declared.schema.Schema.{Schema}
use Rattle.dr_rollup.specs.OpenRows.{OpenRows}
use Rattle.dr_chunks.specs.declared.chunk.Chunk.{Chunk}
use Rattle.dr_rollup.specs.Unrolled.{rolled_up}
use Rattle.dr_cuts.specs.Chunks.{chunk, chunk_list, chunks, with_value}
use Rattle.dr_cuts.specs.AtKey.{at_key}
use Rattle.dr_cuts.specs.State.{State, Cut, Range, open_from, open_events, sealed_in, at_chunk, open_cut}
use Rattle.dr_timeline.specs.Steps.{with_seal, open_in, with_event, sealed_at, accepted}
use Rattle.dr_chunks.specs.Held.{range_of, ranges_of, cut_of, index_of, Holds, HasFewRows, open_count, no_chunk, with_one, with_open_sealed, is_full, seals_of, sealed_if_full, grown, at_start, chunk_at, has_open, chunk_in}
use Rattle.dr_timeline.specs.Kept.{Keeps, HasTexts, IsNumbered}
use Rattle.dr_timeline.proofs.Numbering.{numbered-chunk_at, numbered-sealed, numbered-grown}
use Rattle.dr_cuts.proofs.Parts.{has, part-none, values_onto-push, rising-values, Covers-values_onto, int_eq-itself, is_eq-true}
use Rattle.dr_chunks.proofs.Places.{IsFirst, chunk_at-none}
use Rattle.dr_cuts.proofs.Each.{All-push, All-same}
use Rattle.dr_cuts.proofs.Tiles.{end_from, end_from-append, tile-end}
use Rattle.dr_chunks.proofs.Holding.{holds-other, holds-own, holds-sealed}
use Rattle.dr_chunks.proofs.Changes.{cuts-at_start, sealed_in-cuts, starts-at_start, starts-here, total-at_start, All-chunk_at, All-at_start}

-- ---- the chunk there

pub holds-no_chunk : (schema : Schema) (es : List Event) (k : ℤ) → chunk_list schema es k ≡ [] → Holds schema es (no_chunk schema k)
unfolding rollup_onto
holds-no_chunk schema es k none = record {
  events = ap (λ (l : List Event). length l) (sym none);
  tiled = zero_itself;
  sealed = tt;
  open_range = ap (λ (l : List Event). index_of schema (rolled_up schema (drop 0 l))) (sym none);
}
  where
    zero_itself : 0 ≤ 0
    zero_itself = omega arith

pub rising-starts : (schema : Schema) (es : List Event) (cs : List Chunk) → map (λ c. c.start) cs ≡ chunks schema es → IsStrictlySortedBy int_cmp (map (λ c. c.start) cs)
rising-starts schema es cs starts = subst (λ (ks : List ℤ). IsStrictlySortedBy int_cmp ks) (sym starts) (rising-values (chunk schema) es)

-- the chunk of a start holds the rows of its ranges, whether or not it is new
pub holds-chunk_at : (schema : Schema) (es : List Event) (cs : List Chunk) (k : ℤ) → map (λ c. c.start) cs ≡ chunks schema es → AllByRecursion (Holds schema es) cs → Holds schema es (chunk_at schema k cs) × ((chunk_at schema k cs).start ≡ k)
holds-chunk_at schema es cs k starts each =
    All-chunk_at schema (Holds schema es) cs k each
    (λ none. holds-no_chunk schema es k (part-none (chunk schema) k (chunks schema es) es (Covers-values_onto (chunk schema) [] es) (ap (has k) (sym starts) ∙ none)))
    (rising-starts schema es cs starts)

-- its open range has no event, or one
pub open-none : (schema : Schema) (es : List Event) (k : ℤ) (c : Chunk) → Holds schema es c → c.start ≡ k → has_open c ≡ false → open_events (chunk_list schema es k) (ranges_of c) ≡ []
open-none schema es k c held at none =
    let count : c.events ≡ length (chunk_list schema es k) = held.events ∙ ap (λ j. length (chunk_list schema es j)) at in
    let past : c.events ≤ open_from (ranges_of c) = grind (arith, nat_tests) in
    drop_all (open_from (ranges_of c)) (chunk_list schema es k) (omega arith)

pub open-some : (schema : Schema) (es : List Event) (k : ℤ) (c : Chunk) → Holds schema es c → c.start ≡ k → open_from (ranges_of c) < c.events → open_events (chunk_list schema es k) (ranges_of c) ≡ [] → ⊥
open-some schema es k c held at some none =
    let count : c.events ≡ length (chunk_list schema es k) = held.events ∙ ap (λ j. length (chunk_list schema es j)) at in
    let long : length (drop (open_from (ranges_of c)) (chunk_list schema es k)) ≡ length (chunk_list schema es k) - open_from (ranges_of c) = length-drop (open_from (ranges_of c)) (chunk_list schema es k) in
    let nothing : length (open_events (chunk_list schema es k) (ranges_of c)) ≡ 0 = ap (λ (l : List Event). length l) none in
    absurd (omega arith)

-- the open events of a state whose chunks are kept
pub open-new : (schema : Schema) (es : List Event) (cs : List Chunk) (k : ℤ) (serials commits lost thrown : ℕ) → map (λ c. c.start) cs ≡ chunks schema es → AllByRecursion (Holds schema es) cs → chunk_in k cs ≡ None
    → open_in (record { schema = schema; stream = es; cuts = map cut_of cs; serials = serials; commits = commits; unparseable = lost; thrown_away = thrown }) k ≡ []
open-new schema es cs k serials commits lost thrown starts each none =
    let held = holds-chunk_at schema es cs k starts each in
    ap (open_events (chunk_list schema es k)) (sealed_in-cuts schema cs k)
    ∙ open-none schema es k (chunk_at schema k cs) held.0 held.1 (ap has_open (chunk_at-none schema cs k none))

pub open-empty : (schema : Schema) (es : List Event) (cs : List Chunk) (k : ℤ) (serials commits lost thrown : ℕ) → map (λ c. c.start) cs ≡ chunks schema es → AllByRecursion (Holds schema es) cs → has_open (chunk_at schema k cs) ≡ false
    → open_in (record { schema = schema; stream = es; cuts = map cut_of cs; serials = serials; commits = commits; unparseable = lost; thrown_away = thrown }) k ≡ []
open-empty schema es cs k serials commits lost thrown starts each none =
    let held = holds-chunk_at schema es cs k starts each in
    ap (open_events (chunk_list schema es k)) (sealed_in-cuts schema cs k) ∙ open-none schema es k (chunk_at schema k cs) held.0 held.1 none

has-some : (c : Chunk) → has_open c ≡ true → open_from (ranges_of c) < c.events
has-some c h = grind (arith, nat_tests)

pub open-there : (schema : Schema) (es : List Event) (cs : List Chunk) (k : ℤ) (serials commits lost thrown : ℕ) → map (λ c. c.start) cs ≡ chunks schema es → AllByRecursion (Holds schema es) cs → has_open (chunk_at schema k cs) ≡ true
    → open_in (record { schema = schema; stream = es; cuts = map cut_of cs; serials = serials; commits = commits; unparseable = lost; thrown_away = thrown }) k ≡ [] → ⊥
open-there schema es cs k serials commits lost thrown starts each some none =
    let held = holds-chunk_at schema es cs k starts each in
    open-some schema es k (chunk_at schema k cs) held.0 held.1 (has-some (chunk_at schema k cs) some) (sym (ap (open_events (chunk_list schema es k)) (sealed_in-cuts schema cs k)) ∙ none)

-- ---- the end of a sealed open range

end-sealed : (serial : ℕ) (c : Chunk) → open_from (ranges_of (with_open_sealed serial c)) ≡ c.events
end-sealed serial c = ap (end_from 0) (map-append range_of c.sealed _) ∙ end_from-append 0 (ranges_of c) _

none-open : (serial : ℕ) (c : Chunk) → open_count (with_open_sealed serial c) ≡ 0
none-open serial c = let end = end-sealed serial c in omega arith

seal-cut : (serial n : ℕ) (c : Chunk) → c.events ≡ n → cut_of (with_open_sealed serial c) ≡ with_seal n serial (cut_of c)
seal-cut serial n c is =
    ap (λ (rs : List Range). record { chunk = c.start; sealed = rs; publications = c.publications }) (map-append range_of c.sealed _)
    ∙ ap (λ to. record { chunk = c.start; sealed = ranges_of c ++ record { from = open_from (ranges_of c); to = to; serial = serial; version = 0 } ∷ []; publications = c.publications }) is

-- ---- a seal

pub keeps-sealed : (schema : Schema) (es : List Event) (cs : List Chunk) (seals commits : ℕ) (k : ℤ) (i serial : ℕ) → Keeps schema es cs seals commits
    → i < length cs → AllByRecursion (λ d. int_cmp k d.start ≡ Greater) (take i cs) → IsFirst k (drop i cs) → has_open (chunk_at schema k cs) ≡ true
    → Keeps schema es (at_start schema (with_open_sealed serial) k cs) (seals + 1) commits
keeps-sealed schema es cs seals commits k i serial kept lt before here test =
    let some : open_from (ranges_of (chunk_at schema k cs)) < (chunk_at schema k cs).events = has-some (chunk_at schema k cs) test in
    let rising = rising-starts schema es cs kept.starts in
    let held = holds-chunk_at schema es cs k kept.starts kept.each in
    let total = total-at_start schema cs k (with_open_sealed serial) in
    let none = none-open serial (chunk_at schema k cs) in
    let so_far = kept.seals in
    record {
      formed = kept.formed;
      fit = kept.fit;
      texts = kept.texts;
      retained = kept.retained;
      starts = starts-here schema cs k i (with_open_sealed serial) (λ c. refl) lt before here ∙ kept.starts;
      each = All-at_start schema (Holds schema es) (Holds schema es) cs k (with_open_sealed serial) (λ c e h. h) (holds-sealed schema es serial (chunk_at schema k cs) some held.0) kept.each rising;
      few = All-at_start schema (HasFewRows schema) (HasFewRows schema) cs k (with_open_sealed serial) (λ c e h. h) kept.formed.limits.some_rows kept.few rising;
      numbered = All-at_start schema (IsNumbered commits) (IsNumbered commits) cs k (with_open_sealed serial) (λ c e h. h) (numbered-sealed serial commits (chunk_at schema k cs) (numbered-chunk_at schema cs k commits kept.numbered rising)) kept.numbered rising;
      seals = omega arith;
      commits = kept.commits;
    }

pub cuts-sealed : (schema : Schema) (es : List Event) (cs : List Chunk) (k : ℤ) (serial : ℕ) → map (λ c. c.start) cs ≡ chunks schema es → AllByRecursion (Holds schema es) cs
    → map cut_of (at_start schema (with_open_sealed serial) k cs) ≡ at_chunk k (with_seal (length (chunk_list schema es k)) serial) (map cut_of cs)
cuts-sealed schema es cs k serial starts each =
    let held = holds-chunk_at schema es cs k starts each in
    cuts-at_start schema cs k (with_open_sealed serial) (with_seal (length (chunk_list schema es k)) serial)
    (seal-cut serial (length (chunk_list schema es k)) (chunk_at schema k cs) (held.0.events ∙ ap (λ j. length (chunk_list schema es j)) held.1))

-- ---- one more event

abbrev pub full_after : Schema → Event → List Chunk → Bool
full_after schema e cs = is_full (with_one e (chunk_at schema (chunk schema e) cs))

if-start : (serial : ℕ) (b : Bool) (c : Chunk) → (cond b (with_open_sealed serial c) c).start ≡ c.start
if-start serial true c = refl
if-start serial false c = refl

-- the row's chunk after the event
grown-holds : (schema : Schema) (es : List Event) (e : Event) (serial : ℕ) (b : Bool) (c : Chunk) → Holds schema es c → c.start ≡ chunk schema e
    → Holds schema (es ++ e ∷ []) (cond b (with_open_sealed serial (with_one e c)) (with_one e c))
grown-holds schema es e serial b c held at =
    let own : int_eq (chunk schema e) c.start ≡ true = ap (int_eq (chunk schema e)) at ∙ int_eq-itself (chunk schema e) in
    let new = holds-own schema es e c own held in
    let past : open_from (ranges_of c) ≤ c.events = tile-end 0 c.events (ranges_of c) held.tiled in
    elim b as (λ x. Holds schema (es ++ e ∷ []) (cond x (with_open_sealed serial (with_one e c)) (with_one e c)))
    [ true ↦ holds-sealed schema (es ++ e ∷ []) serial (with_one e c) (omega arith) new | false ↦ new ]

grown-few : (schema : Schema) (es : List Event) (serial : ℕ) (c : Chunk) → IsWellFormed schema → Holds schema es c → HasFewRows schema (sealed_if_full serial c)
grown-few schema es serial c formed held =
    let limit : c.open_range.limit ≡ schema.limits.max_rows_in_memory = ap (λ (x : OpenRows). x.limit) held.open_range in
    elim (is_full c) as (λ b. is_full c ≡ b → HasFewRows schema (cond b (with_open_sealed serial c) c)) [
      | true ↦ λ h. formed.limits.some_rows
      | false ↦ λ h. grind (arith, nat_tests)
    ] refl

grown-open : (serial : ℕ) (b : Bool) (old new : Chunk) → open_count new ≤ open_count old + 1 → open_count (cond b (with_open_sealed serial new) new) + seals_of b ≤ open_count old + 1
grown-open serial true old new le =
    let none = none-open serial new in
    let sealed : open_count (with_open_sealed serial new) + 1 ≤ open_count old + 1 = omega arith in sealed
grown-open serial false old new le = let same : open_count new + 0 ≤ open_count old + 1 = omega arith in same

pub keeps-grown : (schema : Schema) (es : List Event) (cs : List Chunk) (seals commits : ℕ) (e : Event) (serial : ℕ) → Keeps schema es cs seals commits → FitsSchema schema e → HasTexts e → length es < schema.limits.max_retained
    → Keeps schema (es ++ e ∷ []) (at_start schema (grown serial e) (chunk schema e) cs) (seals + seals_of (full_after schema e cs)) commits
keeps-grown schema es cs seals commits e serial kept fits texts room =
    let k : ℤ = chunk schema e in
    let change : Chunk → Chunk = grown serial e in
    let rising = rising-starts schema es cs kept.starts in
    let held = holds-chunk_at schema es cs k kept.starts kept.each in
    let c : Chunk = chunk_at schema k cs in
    let row : Chunk = with_one e c in
    let own : int_eq (chunk schema e) c.start ≡ true = ap (int_eq (chunk schema e)) held.1 ∙ int_eq-itself (chunk schema e) in
    let past : open_from (ranges_of c) ≤ c.events = tile-end 0 c.events (ranges_of c) held.0.tiled in
    let more : open_count row ≤ open_count c + 1 = omega arith in
    let opened = grown-open serial (full_after schema e cs) c row more in
    let total = total-at_start schema cs k change in
    let so_far = kept.seals in
    let long : length (es ++ e ∷ []) ≡ length es + 1 = length_push es e in
    record {
      formed = kept.formed;
      fit = All-push (FitsSchema schema) es e kept.fit fits;
      texts = All-push HasTexts es e kept.texts texts;
      retained = omega arith;
      starts = starts-at_start schema cs k change (λ d. if-start serial (is_full (with_one e d)) (with_one e d))
          ∙ ap (with_value k) kept.starts ∙ sym (values_onto-push (chunk schema) [] es e);
      each = All-at_start schema (Holds schema es) (Holds schema (es ++ e ∷ [])) cs k change (λ d other h. holds-other schema es e d other h) (grown-holds schema es e serial (full_after schema e cs) c held.0 held.1) kept.each rising;
      few = All-at_start schema (HasFewRows schema) (HasFewRows schema) cs k change (λ d other h. h) (grown-few schema (es ++ e ∷ []) serial row kept.formed (holds-own schema es e c own held.0)) kept.few rising;
      numbered = All-at_start schema (IsNumbered commits) (IsNumbered commits) cs k change (λ d other h. h) (numbered-grown serial commits e c (numbered-chunk_at schema cs k commits kept.numbered rising)) kept.numbered rising;
      seals = omega arith;
      commits = kept.commits;
    }

-- the cuts with one chunk opened and then changed
at_key-twice : {A : Type 0} (key : A → ℤ) (fresh : A) (f : A → A) (k : ℤ) (xs : List A) → key fresh ≡ k → at_key key fresh f k (at_key key fresh (λ x. x) k xs) ≡ at_key key fresh f k xs
unfolding at_key
at_key-twice key fresh f k [] at =
    let same : int_cmp k (key fresh) ≡ Equal = ap (int_cmp k) at ∙ is_eq-true (int_cmp k k) (int_eq-itself k) in
    ap (λ o. match_ordering o (f fresh ∷ fresh ∷ []) (f fresh ∷ []) (fresh ∷ f fresh ∷ [])) same
at_key-twice key fresh f k (x ∷ xs) at =
    let same : int_cmp k (key fresh) ≡ Equal = ap (int_cmp k) at ∙ is_eq-true (int_cmp k k) (int_eq-itself k) in
    elim (int_cmp k (key x)) as (λ o. int_cmp k (key x) ≡ o → at_key key fresh f k (match_ordering o (fresh ∷ x ∷ xs) (x ∷ xs) (x ∷ at_key key fresh (λ x. x) k xs)) ≡ match_ordering o (f fresh ∷ x ∷ xs) (f x ∷ xs) (x ∷ at_key key fresh f k xs)) [
      | Less ↦ λ h. ap (λ o. match_ordering o (f fresh ∷ fresh ∷ x ∷ xs) (f fresh ∷ x ∷ xs) (fresh ∷ at_key key fresh f k (x ∷ xs))) same
      | Equal ↦ λ h. ap (λ o. match_ordering o (f fresh ∷ x ∷ xs) (f x ∷ xs) (x ∷ at_key key fresh f k xs)) h
      | Greater ↦ λ h. ap (λ o. match_ordering o (f fresh ∷ x ∷ at_key key fresh (λ x. x) k xs) (f x ∷ at_key key fresh (λ x. x) k xs) (x ∷ at_key key fresh f k (at_key key fresh (λ x. x) k xs))) h ∙ ap (λ l. x ∷ l) (at_key-twice key fresh f k xs at)
    ] refl

sealed_in-opened : (k : ℤ) (cuts : List Cut) → sealed_in k (at_chunk k (λ c. c) cuts) ≡ sealed_in k cuts
unfolding at_key
sealed_in-opened k [] = ap (λ o. match_ordering o [] [] []) (is_eq-true (int_cmp k k) (int_eq-itself k))
sealed_in-opened k (c ∷ cs) =
    elim (int_cmp k c.chunk) as (λ o. int_cmp k c.chunk ≡ o → sealed_in k (match_ordering o (open_cut k ∷ c ∷ cs) (c ∷ cs) (c ∷ at_chunk k (λ c. c) cs)) ≡ match_ordering o [] c.sealed (sealed_in k cs)) [
      | Less ↦ λ h. ap (λ o. match_ordering o [] [] (sealed_in k (c ∷ cs))) (is_eq-true (int_cmp k k) (int_eq-itself k))
      | Equal ↦ λ h. ap (λ o. match_ordering o [] c.sealed (sealed_in k cs)) h
      | Greater ↦ λ h. ap (λ o. match_ordering o [] c.sealed (sealed_in k (at_chunk k (λ c. c) cs))) h ∙ sealed_in-opened k cs
    ] refl

-- what a contract sees after the event
pub state-grown : (schema : Schema) (es : List Event) (cs : List Chunk) (seals commits lost thrown : ℕ) (e : Event) → Keeps schema es cs seals commits
    → record { schema = schema; stream = es ++ e ∷ []; cuts = map cut_of (at_start schema (grown (seals + commits) e) (chunk schema e) cs); serials = seals + seals_of (full_after schema e cs) + commits; commits = commits; unparseable = lost; thrown_away = thrown }
    ≡ accepted (record { schema = schema; stream = es; cuts = map cut_of cs; serials = seals + commits; commits = commits; unparseable = lost; thrown_away = thrown }) e
state-grown schema es cs seals commits lost thrown e kept =
    let k : ℤ = chunk schema e in
    let new : List Event = es ++ e ∷ [] in
    let n : ℕ = length (chunk_list schema new k) in
    let serial : ℕ = seals + commits in
    let change : Chunk → Chunk = grown serial e in
    let c : Chunk = chunk_at schema k cs in
    let row : Chunk = with_one e c in
    let before : State = record { schema = schema; stream = es; cuts = map cut_of cs; serials = serial; commits = commits; unparseable = lost; thrown_away = thrown } in
    let opened : State = with_event before e in
    let held = holds-chunk_at schema es cs k kept.starts kept.each in
    let own : int_eq (chunk schema e) c.start ≡ true = ap (int_eq (chunk schema e)) held.1 ∙ int_eq-itself (chunk schema e) in
    let holds : Holds schema new row = holds-own schema es e c own held.0 in
    let sealed : sealed_in k (at_chunk k (λ c. c) (map cut_of cs)) ≡ ranges_of row = sealed_in-opened k (map cut_of cs) ∙ sealed_in-cuts schema cs k in
    let rows : index_of schema (rolled_up schema (open_in opened k)) ≡ row.open_range =
    (λ i. index_of schema (rolled_up schema (open_events (chunk_list schema new ((sym held.1) i)) (sealed i)))) ∙ sym holds.open_range in
    let full : nat_le schema.limits.max_rows_in_memory (length (rolled_up schema (open_in opened k))) ≡ full_after schema e cs = ap (λ (x : OpenRows). nat_le x.limit (length x.rows)) rows in
    let count : row.events ≡ n = holds.events ∙ ap (λ j. length (chunk_list schema new j)) held.1 in
    let by_case : (b : Bool) → full_after schema e cs ≡ b
    → record { schema = schema; stream = new; cuts = map cut_of (at_start schema change k cs); serials = seals + seals_of b + commits; commits = commits; unparseable = lost; thrown_away = thrown } ≡ cond b (sealed_at k opened) opened = λ b.
    elim b as (λ x. full_after schema e cs ≡ x → record { schema = schema; stream = new; cuts = map cut_of (at_start schema change k cs); serials = seals + seals_of x + commits; commits = commits; unparseable = lost; thrown_away = thrown } ≡ cond x (sealed_at k opened) opened) [
      | true ↦ λ h.
          let cut : cut_of (change c) ≡ with_seal n serial (cut_of c) = ap (λ x. cut_of (cond x (with_open_sealed serial row) row)) h ∙ seal-cut serial n row count in
          let cuts : map cut_of (at_start schema change k cs) ≡ at_chunk k (with_seal n serial) (at_chunk k (λ c. c) (map cut_of cs)) =
          cuts-at_start schema cs k change (with_seal n serial) cut ∙ sym (at_key-twice (λ (c : Cut). c.chunk) (open_cut k) (with_seal n serial) k (map cut_of cs) refl) in
          let numbers : seals + 1 + commits ≡ seals + commits + 1 = omega arith in
          λ i. record { schema = schema; stream = new; cuts = cuts i; serials = numbers i; commits = commits; unparseable = lost; thrown_away = thrown }
      | false ↦ λ h.
          let cut : cut_of (change c) ≡ cut_of c = ap (λ x. cut_of (cond x (with_open_sealed serial row) row)) h in
          let cuts : map cut_of (at_start schema change k cs) ≡ at_chunk k (λ c. c) (map cut_of cs) = cuts-at_start schema cs k change (λ c. c) cut in
          let numbers : seals + 0 + commits ≡ seals + commits = omega arith in
          λ i. record { schema = schema; stream = new; cuts = cuts i; serials = numbers i; commits = commits; unparseable = lost; thrown_away = thrown }
    ] in
    by_case (full_after schema e cs) refl ∙ ap (λ b. cond b (sealed_at k opened) opened) (sym full)

-- what a contract sees after a seal
pub state-sealed : (schema : Schema) (es : List Event) (cs : List Chunk) (seals commits lost thrown : ℕ) (k : ℤ) → Keeps schema es cs seals commits
    → record { schema = schema; stream = es; cuts = map cut_of (at_start schema (with_open_sealed (seals + commits)) k cs); serials = seals + 1 + commits; commits = commits; unparseable = lost; thrown_away = thrown }
    ≡ sealed_at k (record { schema = schema; stream = es; cuts = map cut_of cs; serials = seals + commits; commits = commits; unparseable = lost; thrown_away = thrown })
state-sealed schema es cs seals commits lost thrown k kept =
    let cuts = cuts-sealed schema es cs k (seals + commits) kept.starts kept.each in
    let numbers : seals + 1 + commits ≡ seals + commits + 1 = omega arith in
    λ i. record { schema = schema; stream = es; cuts = cuts i; serials = numbers i; commits = commits; unparseable = lost; thrown_away = thrown }

-- ---- what the calls ask

pub length-filter : {A : Type 0} (p : A → Bool) (xs : List A) → length (filter p xs) ≤ length xs
length-filter p [] = omega arith
length-filter p (x ∷ xs) =
    let less = length-filter p xs in
    elim (p x) as (λ b. length (cond b (x ∷ filter p xs) (filter p xs)) ≤ suc (length xs)) [ true ↦ omega arith | false ↦ omega arith ]

pub chunks-fit : (schema : Schema) (es : List Event) (cs : List Chunk) → length es < 18446744073709551615 → AllByRecursion (Holds schema es) cs → AllByRecursion (λ c. (c.open_range.schema ≡ schema) × (c.events < 18446744073709551615)) cs
chunks-fit schema es cs few each = All-same (Holds schema es) _ (λ c h.
    let less = length-filter (λ e. int_eq (chunk schema e) c.start) es in
    let count = h.events in
    (ap (λ (x : OpenRows). x.schema) h.open_range, omega arith)) cs each
