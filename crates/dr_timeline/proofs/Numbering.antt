-- Publications and versions: no chunk has more publications than there were commits, and no version is over its chunk's publications.
use Rattle.std.proofs.Common.{◌≡◌, sym, subst, ℕ, ℤ, ◌+◌, ◌≤◌, true, false, cond, min, List, [], ◌∷◌, map, take, drop, fold, arith}
use Rattle.std.proofs.Math.Nat.{min-le_left}
use Rattle.std.specs.List.{AllByRecursion}
use Rattle.std.specs.List.Sorted.{IsStrictlySortedBy}
use Rattle.std.specs.Ordering.{int_cmp}
use Rattle.std.proofs.lemmas.List.{take-append-drop}
use Rattle.dr_base.specs.declared.event.Event.{Event}
use Rattle.dr_schema.specs.declared.schema.Schema.{Schema}
use Rattle.dr_merge.specs.declared.purpose.Purpose.{Purpose}
use Rattle.dr_merge.specs.declared.purpose.Purpose.TheVariants.{Merge, Publish}
use Rattle.dr_cuts.specs.State.{Range}
use Rattle.dr_cuts.proofs.Each.{All-push, All-left, All-right, All-append, All-same}
use Rattle.dr_chunks.specs.declared.chunk.Chunk.{Chunk}
use Rattle.dr_chunks.specs.declared.sealed_range.SealedRange.{SealedRange}
use Rattle.dr_chunks.specs.Held.{range_of, cut_of, no_chunk, with_one, with_open_sealed, is_full, grown, with_range, chunk_at}
use Rattle.dr_chunks.proofs.Changes.{All-chunk_at}
use Rattle.dr_timeline.specs.Steps.{least_version, publications_after, version_for, HasVersions}
use Rattle.dr_timeline.specs.Kept.{IsNumbered}

zero-least : (n : ℕ) → 0 ≤ n
zero-least n = omega arith

itself : (n : ℕ) → n ≤ n
itself n = omega arith

-- ---- the chunk there

numbered-new : (schema : Schema) (k : ℤ) (commits : ℕ) → IsNumbered commits (no_chunk schema k)
numbered-new schema k commits = record { publications = zero-least commits; versions = tt }

pub numbered-chunk_at : (schema : Schema) (cs : List Chunk) (k : ℤ) (commits : ℕ) → AllByRecursion (IsNumbered commits) cs → IsStrictlySortedBy int_cmp (map (λ c. c.start) cs) → IsNumbered commits (chunk_at schema k cs)
numbered-chunk_at schema cs k commits all rising = (All-chunk_at schema (IsNumbered commits) cs k all (λ none. numbered-new schema k commits) rising).0

-- ---- a seal, and one more event

pub numbered-sealed : (serial commits : ℕ) (c : Chunk) → IsNumbered commits c → IsNumbered commits (with_open_sealed serial c)
numbered-sealed serial commits c h = record {
  publications = h.publications;
  versions = All-push (λ s. s.version ≤ c.publications) c.sealed _ h.versions (zero-least c.publications);
}

numbered-one : (commits : ℕ) (e : Event) (c : Chunk) → IsNumbered commits c → IsNumbered commits (with_one e c)
numbered-one commits e c h = record { publications = h.publications; versions = h.versions }

pub numbered-grown : (serial commits : ℕ) (e : Event) (c : Chunk) → IsNumbered commits c → IsNumbered commits (grown serial e c)
numbered-grown serial commits e c h =
    let opened = numbered-one commits e c h in
    elim (is_full (with_one e c)) as (λ b. IsNumbered commits (cond b (with_open_sealed serial (with_one e c)) (with_one e c)))
    [ true ↦ numbered-sealed serial commits (with_one e c) opened | false ↦ opened ]

-- ---- ranges that became one

abbrev AreWithin : ℕ → List SealedRange → Type 0
AreWithin p ss = AllByRecursion (λ s. s.version ≤ p) ss

min-within : (a b p : ℕ) → a ≤ p → min a b ≤ p
min-within a b p le = let less = min-le_left a b in omega (arith, less, le)

least-from : (n p : ℕ) (rs : List Range) → n ≤ p → fold (λ least range. min least range.version) n rs ≤ p
least-from n p [] le = le
least-from n p (r ∷ rs) le = least-from (min n r.version) p rs (min-within n r.version p le)

least-within : (p : ℕ) (ss : List SealedRange) → AreWithin p ss → least_version (map range_of ss) ≤ p
least-within p [] all = zero-least p
least-within p (s ∷ ss) all = least-from s.version p (map range_of ss) all.0

after-more : (purpose : Purpose) (p : ℕ) → p ≤ publications_after purpose p
after-more Merge p = itself p
after-more Publish p = let more : p ≤ p + 1 = omega arith in more

after-most : (purpose : Purpose) (p : ℕ) → publications_after purpose p ≤ p + 1
after-most Merge p = let more : p ≤ p + 1 = omega arith in more
after-most Publish p = itself (p + 1)

version-within : (purpose : Purpose) (p : ℕ) (ss : List SealedRange) → AreWithin p ss → version_for purpose (publications_after purpose p) (map range_of ss) ≤ publications_after purpose p
version-within Merge p ss all = least-within p ss all
version-within Publish p ss all = itself (p + 1)

at-most : (a b c : ℕ) → a ≤ b → b ≤ c → a ≤ c
at-most a b c le less = omega arith

more-within : (p q : ℕ) (ss : List SealedRange) → p ≤ q → AreWithin p ss → AreWithin q ss
more-within p q ss le all = All-same (λ s. s.version ≤ p) (λ s. s.version ≤ q) (λ s h. at-most s.version p q h le) ss all

first-within : (p n : ℕ) (ss : List SealedRange) → AreWithin p ss → AreWithin p (take n ss)
first-within p n ss all = All-left (λ s. s.version ≤ p) (take n ss) (drop n ss) (subst (AreWithin p) (sym (take-append-drop n ss)) all)

last-within : (p n : ℕ) (ss : List SealedRange) → AreWithin p ss → AreWithin p (drop n ss)
last-within p n ss all = All-right (λ s. s.version ≤ p) (take n ss) (drop n ss) (subst (AreWithin p) (sym (take-append-drop n ss)) all)

-- the chunk with one range in the place of others
pub numbered-replaced : (commits place count : ℕ) (purpose : Purpose) (new : SealedRange) (c : Chunk) → IsNumbered commits c
    → new.version ≡ version_for purpose (publications_after purpose c.publications) (map range_of (take count (drop place c.sealed)))
    → IsNumbered (commits + 1) (with_range place count (publications_after purpose c.publications) new c)
numbered-replaced commits place count purpose new c h is =
    let p : ℕ = c.publications in
    let q : ℕ = publications_after purpose p in
    let all = more-within p q c.sealed (after-more purpose p) h.versions in
    let own : new.version ≤ q = subst (λ n. n ≤ q) (sym is) (version-within purpose p (take count (drop place c.sealed)) (first-within p count (drop place c.sealed) (last-within p place c.sealed h.versions))) in
    let few : p + 1 ≤ commits + 1 = let less = h.publications in omega arith in
    record {
      publications = at-most q (p + 1) (commits + 1) (after-most purpose p) few;
      versions = All-append (λ s. s.version ≤ q) (take place c.sealed) (new ∷ drop (place + count) c.sealed) (first-within q place c.sealed all) (own, last-within q (place + count) c.sealed all);
    }

-- the versions that a contract sees
versions-shown : (p : ℕ) (ss : List SealedRange) → AreWithin p ss → AllByRecursion (λ range. range.version ≤ p) (map range_of ss)
versions-shown p [] all = tt
versions-shown p (s ∷ ss) all = (all.0, versions-shown p ss all.1)

pub numbered-shown : (commits : ℕ) (cs : List Chunk) → AllByRecursion (IsNumbered commits) cs → AllByRecursion HasVersions (map cut_of cs)
numbered-shown commits [] all = tt
numbered-shown commits (c ∷ cs) all = (versions-shown c.publications c.sealed all.0.versions, numbered-shown commits cs all.1)

-- another chunk after one more commit
pub numbered-more : (commits : ℕ) (c : Chunk) → IsNumbered commits c → IsNumbered (commits + 1) c
numbered-more commits c h = record { publications = (let less = h.publications in omega arith); versions = h.versions }
