-- Jobs over the sealed ranges of a chunk.
use Rattle.std.proofs.Common.{◌≡◌, ◌∙◌, sym, refl, ap, subst, ℕ, ℤ, ◌+◌, ◌-◌, ◌<◌, ◌≤◌, List, [], ◌∷◌, ◌++◌, length, map, take, drop, arith}
use Rattle.std.specs.List.{AllByRecursion}
use Rattle.std.specs.declared.cmp.Ordering.TheVariants.{Less, Equal, Greater}
use Rattle.std.specs.Ordering.{int_cmp, match_ordering}
use Rattle.std.proofs.lemmas.List.{map-append, drop-map, take-map, length-map, length-take, length-drop, take-append-drop, drop-drop}
use Rattle.dr_base.specs.declared.event.Event.{Event}
use Rattle.dr_schema.specs.declared.schema.Schema.{Schema}
use Rattle.dr_chunks.specs.declared.chunk.Chunk.{Chunk}
use Rattle.dr_merge.specs.declared.job.Job.{Job}
use Rattle.dr_chunks.specs.declared.sealed_range.SealedRange.{SealedRange}
use Rattle.dr_cuts.specs.Chunks.{chunks}
use Rattle.dr_cuts.specs.State.{State, sealed_in, open_from}
use Rattle.dr_merge.specs.Joined.{joined, joined_fragment}
use Rattle.dr_chunks.specs.Ranges.{fragment_of}
use Rattle.dr_timeline.specs.Steps.{ranges_at, StandsAt, publications_in, publications_after, version_for, joined_range, replaced, committed}
use Rattle.dr_chunks.proofs.Places.{IsFirst}
use Rattle.dr_chunks.specs.Held.{range_of, ranges_of, cut_of, no_chunk, Holds, HasFewRows, with_range, at_start, chunk_at, open_count}
use Rattle.dr_timeline.specs.Kept.{Keeps, StandsIn, IsNumbered}
use Rattle.dr_timeline.proofs.Numbering.{numbered-chunk_at, numbered-replaced, numbered-more}
use Rattle.dr_cuts.proofs.Each.{All-left, All-right}
use Rattle.dr_chunks.proofs.Holding.{holds-replaced}
use Rattle.dr_chunks.proofs.Changes.{cuts-at_start, sealed_in-cuts, starts-here, total-at_start, All-at_start, All-chunk_at}
use Rattle.dr_timeline.proofs.Keeping.{holds-chunk_at, rising-starts}

-- what a contract sees of kept chunks
abbrev pub seen : Schema → List Event → List Chunk → (serials commits lost thrown : ℕ) → State
seen schema es cs serials commits lost thrown = record { schema = schema; stream = es; cuts = map cut_of cs; serials = serials; commits = commits; unparseable = lost; thrown_away = thrown }

pub All-part : {A : Type 0} (P : A → Type 0) (xs : List A) (place count : ℕ) → AllByRecursion P xs → AllByRecursion P (take count (drop place xs))
All-part P xs place count h =
    let rest = All-right P (take place xs) (drop place xs) (subst (AllByRecursion P) (sym (take-append-drop place xs)) h) in
    All-left P (take count (drop place xs)) (drop count (drop place xs)) (subst (AllByRecursion P) (sym (take-append-drop count (drop place xs))) rest)

-- some sealed ranges of a chunk
part-ranges : (ss : List SealedRange) (place count : ℕ) → take count (drop place (map range_of ss)) ≡ map range_of (take count (drop place ss))
part-ranges ss place count = ap (take count) (drop-map range_of place ss) ∙ take-map range_of count (drop place ss)

serials-of : (ss : List SealedRange) → map (λ r. r.serial) (map range_of ss) ≡ map (λ s. s.serial) ss
serials-of [] = refl
serials-of (s ∷ ss) = ap (λ ns. s.serial ∷ ns) (serials-of ss)

inputs-of : (schema : Schema) (es : List Event) (k : ℤ) (ss : List SealedRange) → AllByRecursion (λ s. s.fragment ≡ fragment_of schema es k (range_of s)) ss
    → map (fragment_of schema es k) (map range_of ss) ≡ map (λ s. s.fragment) ss
inputs-of schema es k [] h = refl
inputs-of schema es k (s ∷ ss) h = λ i. (sym h.0) i ∷ inputs-of schema es k ss h.1 i

-- the sealed ranges that a state shows of a chunk
pub shown-part : (schema : Schema) (es : List Event) (cs : List Chunk) (serials commits lost thrown : ℕ) (k : ℤ) (c : Chunk) (place count : ℕ) → chunk_at schema k cs ≡ c
    → ranges_at (seen schema es cs serials commits lost thrown) k place count ≡ map range_of (take count (drop place c.sealed))
shown-part schema es cs serials commits lost thrown k c place count here =
    ap (λ rs. take count (drop place rs)) (sealed_in-cuts schema cs k ∙ ap ranges_of here) ∙ part-ranges c.sealed place count

pub shown-serials : (schema : Schema) (es : List Event) (cs : List Chunk) (serials commits lost thrown : ℕ) (k : ℤ) (c : Chunk) (place count : ℕ) → chunk_at schema k cs ≡ c
    → map (λ r. r.serial) (ranges_at (seen schema es cs serials commits lost thrown) k place count) ≡ map (λ s. s.serial) (take count (drop place c.sealed))
shown-serials schema es cs serials commits lost thrown k c place count here =
    ap (map (λ r. r.serial)) (shown-part schema es cs serials commits lost thrown k c place count here) ∙ serials-of (take count (drop place c.sealed))

pub shown-inputs : (schema : Schema) (es : List Event) (cs : List Chunk) (serials commits lost thrown : ℕ) (k : ℤ) (c : Chunk) (place count : ℕ) → chunk_at schema k cs ≡ c → map (λ c. c.start) cs ≡ chunks schema es → AllByRecursion (Holds schema es) cs
    → map (fragment_of schema es k) (ranges_at (seen schema es cs serials commits lost thrown) k place count) ≡ map (λ s. s.fragment) (take count (drop place c.sealed))
shown-inputs schema es cs serials commits lost thrown k c place count here starts each =
    let held = holds-chunk_at schema es cs k starts each in
    let start : c.start ≡ k = ap (λ (d : Chunk). d.start) (sym here) ∙ held.1 in
    let sealed : AllByRecursion (λ s. s.fragment ≡ fragment_of schema es k (range_of s)) c.sealed =
    subst (λ (j : ℤ). AllByRecursion (λ s. s.fragment ≡ fragment_of schema es j (range_of s)) c.sealed) start (subst (Holds schema es) here held.0).sealed in
    ap (map (fragment_of schema es k)) (shown-part schema es cs serials commits lost thrown k c place count here)
    ∙ inputs-of schema es k (take count (drop place c.sealed)) (All-part (λ s. s.fragment ≡ fragment_of schema es k (range_of s)) c.sealed place count sealed)

pub shown-length : (schema : Schema) (es : List Event) (cs : List Chunk) (serials commits lost thrown : ℕ) (k : ℤ) (c : Chunk) → chunk_at schema k cs ≡ c → length (sealed_in k (seen schema es cs serials commits lost thrown).cuts) ≡ length c.sealed
shown-length schema es cs serials commits lost thrown k c here = ap (λ rs. length rs) (sealed_in-cuts schema cs k ∙ ap ranges_of here) ∙ length-map c.sealed range_of

-- the publications that a state shows of a chunk
pub shown-publications : (schema : Schema) (cs : List Chunk) (k : ℤ) (c : Chunk) → chunk_at schema k cs ≡ c → publications_in k (map cut_of cs) ≡ c.publications
shown-publications schema cs k c here = those cs ∙ ap (λ (d : Chunk). d.publications) here
  where
    those : (cs : List Chunk) → publications_in k (map cut_of cs) ≡ (chunk_at schema k cs).publications
    those [] = refl
    those (c ∷ cs) =
        elim (int_cmp k c.start) as (λ o. match_ordering o 0 c.publications (publications_in k (map cut_of cs)) ≡ (match_ordering o (no_chunk schema k) c (chunk_at schema k cs)).publications)
        [ Less ↦ refl | Equal ↦ refl | Greater ↦ those cs ]

-- a job stands among the sealed ranges that are kept just where it stands among those that a contract sees
pub stands-at : (schema : Schema) (es : List Event) (cs : List Chunk) (serials commits lost thrown : ℕ) (job : Job) (c : Chunk) (place : ℕ) → chunk_at schema job.chunk cs ≡ c → map (λ c. c.start) cs ≡ chunks schema es → AllByRecursion (Holds schema es) cs
    → StandsIn c.sealed job place → StandsAt (seen schema es cs serials commits lost thrown) job place
stands-at schema es cs serials commits lost thrown job c place here starts each stands = record {
  some = stands.some;
  within = subst (λ (n : ℕ). place + length job.inputs ≤ n) (sym (shown-length schema es cs serials commits lost thrown job.chunk c here)) stands.within;
  serials = shown-serials schema es cs serials commits lost thrown job.chunk c place (length job.inputs) here ∙ stands.serials;
  inputs = shown-inputs schema es cs serials commits lost thrown job.chunk c place (length job.inputs) here starts each ∙ stands.inputs;
}

pub stands-in : (schema : Schema) (es : List Event) (cs : List Chunk) (serials commits lost thrown : ℕ) (job : Job) (c : Chunk) (place : ℕ) → chunk_at schema job.chunk cs ≡ c → map (λ c. c.start) cs ≡ chunks schema es → AllByRecursion (Holds schema es) cs
    → StandsAt (seen schema es cs serials commits lost thrown) job place → StandsIn c.sealed job place
stands-in schema es cs serials commits lost thrown job c place here starts each stands = record {
  some = stands.some;
  within = subst (λ (n : ℕ). place + length job.inputs ≤ n) (shown-length schema es cs serials commits lost thrown job.chunk c here) stands.within;
  serials = sym (shown-serials schema es cs serials commits lost thrown job.chunk c place (length job.inputs) here) ∙ stands.serials;
  inputs = sym (shown-inputs schema es cs serials commits lost thrown job.chunk c place (length job.inputs) here starts each) ∙ stands.inputs;
}

-- ---- a merge

-- the chunk with the joined range in the place of the job's
joined-holds : (schema : Schema) (es : List Event) (c : Chunk) (place count publications : ℕ) (middle : List SealedRange) (new : SealedRange) → take count (drop place c.sealed) ≡ middle → 0 < length middle → Holds schema es c
    → new.fragment ≡ joined schema c.start (map (λ s. s.fragment) middle)
    → Holds schema es (with_range place count publications new c) × (open_from (ranges_of (with_range place count publications new c)) ≡ open_from (ranges_of c))
joined-holds schema es c place count publications [] new is some held joined = absurd (omega arith)
joined-holds schema es c place count publications (s ∷ ss) new is some held joined =
    let parts : c.sealed ≡ take place c.sealed ++ ((s ∷ ss) ++ drop (place + count) c.sealed) =
    sym (take-append-drop place c.sealed) ∙ ap (λ l. take place c.sealed ++ l) (sym (take-append-drop count (drop place c.sealed)) ∙ (λ i. is i ++ drop-drop count place c.sealed i)) in
    holds-replaced schema es c (take place c.sealed) s ss (drop (place + count) c.sealed) new publications parts held joined

part-length : (ss : List SealedRange) (place count : ℕ) → place + count ≤ length ss → length (take count (drop place ss)) ≡ count
part-length ss place count le =
    let a = length-take count (drop place ss) in
    let b = length-drop place ss in
    omega arith

-- the new range stands for the inputs of the job
pub merged-holds : (schema : Schema) (es : List Event) (cs : List Chunk) (job : Job) (c : Chunk) (place publications : ℕ) (new : SealedRange) → chunk_at schema job.chunk cs ≡ c → map (λ c. c.start) cs ≡ chunks schema es → AllByRecursion (Holds schema es) cs
    → StandsIn c.sealed job place → new.fragment ≡ joined_fragment schema job
    → Holds schema es (with_range place (length job.inputs) publications new c) × (open_from (ranges_of (with_range place (length job.inputs) publications new c)) ≡ open_from (ranges_of c))
merged-holds schema es cs job c place publications new here starts each stands is =
    let held = holds-chunk_at schema es cs job.chunk starts each in
    let start : c.start ≡ job.chunk = ap (λ (d : Chunk). d.start) (sym here) ∙ held.1 in
    let long = part-length c.sealed place (length job.inputs) stands.within in
    let some = stands.some in
    joined-holds schema es c place (length job.inputs) publications (take (length job.inputs) (drop place c.sealed)) new refl (omega arith) (subst (Holds schema es) here held.0)
    (is ∙ (λ i. joined schema ((sym start) i) ((sym stands.inputs) i)))

pub keeps-merged : (schema : Schema) (es : List Event) (cs : List Chunk) (seals commits : ℕ) (job : Job) (c : Chunk) (i place : ℕ) (new : SealedRange) → Keeps schema es cs seals commits → chunk_at schema job.chunk cs ≡ c
    → i < length cs → AllByRecursion (λ d. int_cmp job.chunk d.start ≡ Greater) (take i cs) → IsFirst job.chunk (drop i cs)
    → StandsIn c.sealed job place → new.fragment ≡ joined_fragment schema job
    → new.version ≡ version_for job.purpose (publications_after job.purpose c.publications) (map range_of (take (length job.inputs) (drop place c.sealed))) → commits < schema.limits.max_commits
    → Keeps schema es (at_start schema (with_range place (length job.inputs) (publications_after job.purpose c.publications) new) job.chunk cs) seals (commits + 1)
keeps-merged schema es cs seals commits job c i place new kept there lt before here stands is version room =
    let publications : ℕ = publications_after job.purpose c.publications in
    let change : Chunk → Chunk = with_range place (length job.inputs) publications new in
    let rising = rising-starts schema es cs kept.starts in
    let merged = merged-holds schema es cs job c place publications new there kept.starts kept.each stands is in
    let numbered = numbered-replaced commits place (length job.inputs) job.purpose new c (subst (IsNumbered commits) there (numbered-chunk_at schema cs job.chunk commits kept.numbered rising)) version in
    let few : HasFewRows schema (chunk_at schema job.chunk cs) = (All-chunk_at schema (HasFewRows schema) cs job.chunk kept.few (λ none. kept.formed.limits.some_rows) rising).0 in
    let total = total-at_start schema cs job.chunk change in
    let same : open_count (change (chunk_at schema job.chunk cs)) ≡ open_count (chunk_at schema job.chunk cs) = ap (λ (d : Chunk). open_count (change d)) there ∙ ap (λ n. c.events - n) merged.1 ∙ ap open_count (sym there) in
    let so_far = kept.seals in
    record {
      formed = kept.formed;
      fit = kept.fit;
      texts = kept.texts;
      retained = kept.retained;
      starts = starts-here schema cs job.chunk i change (λ d. refl) lt before here ∙ kept.starts;
      each = All-at_start schema (Holds schema es) (Holds schema es) cs job.chunk change (λ d e h. h) (subst (λ (d : Chunk). Holds schema es (change d)) (sym there) merged.0) kept.each rising;
      few = All-at_start schema (HasFewRows schema) (HasFewRows schema) cs job.chunk change (λ d e h. h) few kept.few rising;
      numbered = All-at_start schema (IsNumbered commits) (IsNumbered (commits + 1)) cs job.chunk change (λ d e h. numbered-more commits d h) (subst (λ (d : Chunk). IsNumbered (commits + 1) (change d)) (sym there) numbered) kept.numbered rising;
      seals = omega arith;
      commits = omega arith;
    }

-- what a contract sees after a merge
pub state-merged : (schema : Schema) (es : List Event) (cs : List Chunk) (seals commits lost thrown : ℕ) (job : Job) (c : Chunk) (place : ℕ) (new : SealedRange) → Keeps schema es cs seals commits → chunk_at schema job.chunk cs ≡ c
    → range_of new ≡ joined_range (seen schema es cs (seals + commits) commits lost thrown) job place
    → seen schema es (at_start schema (with_range place (length job.inputs) (publications_after job.purpose c.publications) new) job.chunk cs) (seals + (commits + 1)) (commits + 1) lost thrown ≡ committed (seen schema es cs (seals + commits) commits lost thrown) job place
state-merged schema es cs seals commits lost thrown job c place new kept there is =
    let before : State = seen schema es cs (seals + commits) commits lost thrown in
    let count : ℕ = length job.inputs in
    let d : Chunk = chunk_at schema job.chunk cs in
    let sealed : map range_of (take place d.sealed ++ (new ∷ drop (place + count) d.sealed)) ≡ take place (ranges_of d) ++ (joined_range before job place ∷ drop (place + count) (ranges_of d)) =
    map-append range_of (take place d.sealed) (new ∷ drop (place + count) d.sealed)
    ∙ (λ i. (sym (take-map range_of place d.sealed)) i ++ (is i ∷ (sym (drop-map range_of (place + count) d.sealed)) i)) in
    let publications : publications_after job.purpose c.publications ≡ publications_after job.purpose d.publications = ap (λ (x : Chunk). publications_after job.purpose x.publications) (sym there) in
    let cuts = cuts-at_start schema cs job.chunk (with_range place count (publications_after job.purpose c.publications) new) (replaced place count job.purpose (joined_range before job place))
    (λ i. record { chunk = d.start; sealed = sealed i; publications = publications i }) in
    let numbers : seals + (commits + 1) ≡ seals + commits + 1 = omega arith in
    λ i. record { schema = schema; stream = es; cuts = cuts i; serials = numbers i; commits = commits + 1; unparseable = lost; thrown_away = thrown }
