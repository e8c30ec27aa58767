-- Where a chunk stands among chunks that rise, and a change of it there.
use Rattle.std.proofs.Common.{◌≡◌, ◌∙◌, sym, refl, ap, cond, ℤ, ℕ, ◌<◌, Some, None, Ok, Err, Option, Result, MutBor, is_some, true, false, if◌then◌else◌, List, [], ◌∷◌, ◌++◌, length, take, drop, get_or, zero, suc, arith}
use Rattle.std.specs.List.{AllByRecursion}
use Rattle.std.specs.List.Sorted.{IsStrictlySortedBy}
use Rattle.std.specs.declared.cmp.Ordering.TheVariants.{Less, Equal, Greater}
use Rattle.std.specs.Ordering.{int_cmp, is_eq, match_ordering}
use Rattle.std.specs.Cmp.{int_cmp_total}
use Rattle.std.specs.FinMap.{int_cmp-IsAntisymmetric}
use Rattle.std.specs.Option.{IsSome, option_copied_mut}
use Rattle.std.specs.Result.{OnOk, OnErr}
use Rattle.dr_base.specs.declared.event.Event.{Event}
use Rattle.std.specs.Map.{keys_of, values_of, lookup, set_value}
use Rattle.std.specs.BTreeMap.{insert_entry, is_at}
use Rattle.dr_schema.specs.declared.schema.Schema.{Schema}
use Rattle.dr_chunks.specs.declared.chunk.Chunk.{Chunk}
use Rattle.dr_cuts.specs.AtKey.{at_key}
use Rattle.dr_chunks.specs.Held.{no_chunk, at_start, chunk_at, chunk_in, grown, is_full, with_one, with_open_sealed}

-- it starts before the first of these
abbrev pub IsBelow : ℤ → List Chunk → Type 0
IsBelow k [] = Unit {0}
IsBelow k (c ∷ cs) = int_cmp k c.start ≡ Less

-- the first of these starts there
abbrev pub IsFirst : ℤ → List Chunk → Type 0
IsFirst k [] = ⊥
IsFirst k (c ∷ cs) = int_cmp k c.start ≡ Equal

-- a change where the chunk is new
pub at_start-new : (schema : Schema) (cs : List Chunk) (k : ℤ) (i : ℕ) (change : Chunk → Chunk) → AllByRecursion (λ d. int_cmp k d.start ≡ Greater) (take i cs) → IsBelow k (drop i cs)
    → at_start schema change k cs ≡ take i cs ++ (change (no_chunk schema k) ∷ drop i cs)
unfolding at_key
at_start-new schema [] k zero change before below = refl
at_start-new schema (c ∷ cs) k zero change before below = rw below refl
at_start-new schema [] k (suc i) change before below = refl
at_start-new schema (c ∷ cs) k (suc i) change before below = rw before.0 (ap (λ ds. c ∷ ds) (at_start-new schema cs k i change before.1 below))

-- the chunk there
pub chunk_at-new : (schema : Schema) (cs : List Chunk) (k : ℤ) (i : ℕ) → AllByRecursion (λ d. int_cmp k d.start ≡ Greater) (take i cs) → IsBelow k (drop i cs) → chunk_at schema k cs ≡ no_chunk schema k
chunk_at-new schema [] k zero before below = refl
chunk_at-new schema (c ∷ cs) k zero before below = rw below refl
chunk_at-new schema [] k (suc i) before below = refl
chunk_at-new schema (c ∷ cs) k (suc i) before below = rw before.0 (chunk_at-new schema cs k i before.1 below)

pub chunk_at-here : (schema : Schema) (cs : List Chunk) (k : ℤ) (i : ℕ) (d : Chunk) → i < length cs → AllByRecursion (λ d. int_cmp k d.start ≡ Greater) (take i cs) → IsFirst k (drop i cs) → chunk_at schema k cs ≡ get_or cs i d
chunk_at-here schema [] k i d lt before here = absurd (omega arith)
chunk_at-here schema (c ∷ cs) k zero d lt before here = rw here refl
chunk_at-here schema (c ∷ cs) k (suc i) d lt before here = rw before.0 (chunk_at-here schema cs k i d (omega arith) before.1 here)

-- where the chunk stands that is found
pub place-found : (cs : List Chunk) (k : ℤ) (c : Chunk) → chunk_in k cs ≡ Some c → (i : ℕ) × (i < length cs) × AllByRecursion (λ d. int_cmp k d.start ≡ Greater) (take i cs) × IsFirst k (drop i cs)
place-found [] k c there = cc
place-found (d ∷ cs) k c there =
    elim (int_cmp k d.start) as (λ o. int_cmp k d.start ≡ o → match_ordering o None (Some d) (chunk_in k cs) ≡ Some c → (i : ℕ) × (i < length (d ∷ cs)) × AllByRecursion (λ d. int_cmp k d.start ≡ Greater) (take i (d ∷ cs)) × IsFirst k (drop i (d ∷ cs))) [
      | Less ↦ λ h t. cc
      | Equal ↦ λ h t. (0, omega arith, tt, h)
      | Greater ↦ λ h t. (let rest = place-found cs k c t in (suc rest.0, omega (arith, rest.1), (h, rest.2), rest.3))
    ] refl there

-- before which chunk one is new that isn't found
pub place-new : (cs : List Chunk) (k : ℤ) → chunk_in k cs ≡ None → (i : ℕ) × AllByRecursion (λ d. int_cmp k d.start ≡ Greater) (take i cs) × IsBelow k (drop i cs)
place-new [] k none = (0, tt, tt)
place-new (d ∷ cs) k none =
    elim (int_cmp k d.start) as (λ o. int_cmp k d.start ≡ o → match_ordering o None (Some d) (chunk_in k cs) ≡ None → (i : ℕ) × AllByRecursion (λ d. int_cmp k d.start ≡ Greater) (take i (d ∷ cs)) × IsBelow k (drop i (d ∷ cs))) [
      | Less ↦ λ h t. (0, tt, h)
      | Equal ↦ λ h t. cc
      | Greater ↦ λ h t. (let rest = place-new cs k t in (suc rest.0, (h, rest.1), rest.2))
    ] refl none

-- the chunk that is found
pub chunk_at-in : (schema : Schema) (cs : List Chunk) (k : ℤ) (c : Chunk) → chunk_in k cs ≡ Some c → chunk_at schema k cs ≡ c
chunk_at-in schema [] k c there = cc
chunk_at-in schema (d ∷ cs) k c there =
    elim (int_cmp k d.start) as (λ o. match_ordering o None (Some d) (chunk_in k cs) ≡ Some c → match_ordering o (no_chunk schema k) d (chunk_at schema k cs) ≡ c) [
      | Less ↦ λ t. cc
      | Equal ↦ λ t. cc
      | Greater ↦ λ t. chunk_at-in schema cs k c t
    ] there

pub chunk_at-none : (schema : Schema) (cs : List Chunk) (k : ℤ) → chunk_in k cs ≡ None → chunk_at schema k cs ≡ no_chunk schema k
chunk_at-none schema [] k none = refl
chunk_at-none schema (d ∷ cs) k none =
    elim (int_cmp k d.start) as (λ o. match_ordering o None (Some d) (chunk_in k cs) ≡ None → match_ordering o (no_chunk schema k) d (chunk_at schema k cs) ≡ no_chunk schema k) [
      | Less ↦ λ t. refl
      | Equal ↦ λ t. cc
      | Greater ↦ λ t. chunk_at-none schema cs k t
    ] none

-- ---- chunks under their starts

-- no chunk under a start behind another
none_behind : (es : List (ℤ × Chunk)) (k : ℤ) → AllByRecursion (λ j. int_cmp k j ≡ Less) (keys_of es) → lookup (is_at (int_cmp k)) es ≡ None
none_behind [] k all = refl
none_behind (e ∷ es) k all = rw all.0 (none_behind es k all.1)

-- the start of an entry is its key
keyed_at : (e : ℤ × Chunk) (k : ℤ) → e.1.start ≡ e.0 → int_cmp k e.1.start ≡ int_cmp k e.0
keyed_at e k keyed = ap (int_cmp k) keyed

below_all : (k j : ℤ) (es : List (ℤ × Chunk)) → int_cmp k j ≡ Less → AllByRecursion (λ i. int_cmp j i ≡ Less) (keys_of es) → AllByRecursion (λ i. int_cmp k i ≡ Less) (keys_of es)
below_all k j [] h all = tt
below_all k j (e ∷ es) h all = (int_cmp_total.trans k j e.0 h all.0, below_all k j es h all.1)

module _ (k : ℤ) where
  -- what a look-up finds
  pub looked-up : (es : List (ℤ × Chunk)) → AllByRecursion (λ e. e.1.start ≡ e.0) es → IsStrictlySortedBy int_cmp (keys_of es) → lookup (is_at (int_cmp k)) es ≡ chunk_in k (values_of es)
  unfolding IsStrictlySortedBy
  looked-up [] keyed up = refl
  looked-up (e ∷ es) keyed up =
      rw (keyed_at e k keyed.0) (elim (int_cmp k e.0) as (λ o. int_cmp k e.0 ≡ o → cond (is_eq o) (Some e.1) (lookup (is_at (int_cmp k)) es) ≡ match_ordering o None (Some e.1) (chunk_in k (values_of es))) [
        | Less ↦ λ h. none_behind es k (below_all k e.0 es h up.0)
        | Equal ↦ λ h. refl
        | Greater ↦ λ h. looked-up es keyed.1 up.1
      ] refl)

  -- a chunk that is written over under its start
  pub written-over : (schema : Schema) (es : List (ℤ × Chunk)) (change : Chunk → Chunk) (c w : Chunk) → AllByRecursion (λ e. e.1.start ≡ e.0) es → IsStrictlySortedBy int_cmp (keys_of es) → lookup (is_at (int_cmp k)) es ≡ Some c → w ≡ change c
      → values_of (set_value (is_at (int_cmp k)) es w) ≡ at_start schema change k (values_of es)
  unfolding at_key IsStrictlySortedBy
  written-over schema [] change c w keyed up there is = cc
  written-over schema (e ∷ es) change c w keyed up there is =
      rw (keyed_at e k keyed.0) (elim (int_cmp k e.0) as (λ o. int_cmp k e.0 ≡ o → cond (is_eq o) (Some e.1) (lookup (is_at (int_cmp k)) es) ≡ Some c
      → values_of (cond (is_eq o) ((e.0, w) ∷ es) (e ∷ set_value (is_at (int_cmp k)) es w)) ≡ match_ordering o (change (no_chunk schema k) ∷ e.1 ∷ values_of es) (change e.1 ∷ values_of es) (e.1 ∷ at_start schema change k (values_of es))) [
        | Less ↦ λ h t. (let none = none_behind es k (below_all k e.0 es h up.0) in cc)
        | Equal ↦ λ h t. (let same : e.1 ≡ c = cc in ap (λ x. x ∷ values_of es) (is ∙ ap change (sym same)))
        | Greater ↦ λ h t. ap (λ l. e.1 ∷ l) (written-over schema es change c w keyed.1 up.1 t is)
      ] refl there)

  -- a new chunk under its start
  pub put-new : (schema : Schema) (es : List (ℤ × Chunk)) (change : Chunk → Chunk) (v : Chunk) → AllByRecursion (λ e. e.1.start ≡ e.0) es → lookup (is_at (int_cmp k)) es ≡ None → v ≡ change (no_chunk schema k)
      → values_of (insert_entry int_cmp es k v) ≡ at_start schema change k (values_of es)
  unfolding at_key
  put-new schema [] change v keyed none is = ap (λ x. x ∷ []) is
  put-new schema (e ∷ es) change v keyed none is =
      rw (keyed_at e k keyed.0) (elim (int_cmp k e.0) as (λ o. cond (is_eq o) (Some e.1) (lookup (is_at (int_cmp k)) es) ≡ None
      → values_of (match_ordering o ((k, v) ∷ e ∷ es) ((e.0, v) ∷ es) (e ∷ insert_entry int_cmp es k v)) ≡ match_ordering o (change (no_chunk schema k) ∷ e.1 ∷ values_of es) (change e.1 ∷ values_of es) (e.1 ∷ at_start schema change k (values_of es))) [
        | Less ↦ λ t. ap (λ x. x ∷ e.1 ∷ values_of es) is
        | Equal ↦ λ t. cc
        | Greater ↦ λ t. ap (λ l. e.1 ∷ l) (put-new schema es change v keyed.1 t is)
      ] none)

  -- each chunk stands under its start still
  pub keyed-written : (es : List (ℤ × Chunk)) (w : Chunk) → AllByRecursion (λ e. e.1.start ≡ e.0) es → w.start ≡ k → AllByRecursion (λ e. e.1.start ≡ e.0) (set_value (is_at (int_cmp k)) es w)
  keyed-written [] w keyed is = tt
  keyed-written (e ∷ es) w keyed is =
      elim (int_cmp k e.0) as (λ o. int_cmp k e.0 ≡ o → AllByRecursion (λ e. e.1.start ≡ e.0) (cond (is_eq o) ((e.0, w) ∷ es) (e ∷ set_value (is_at (int_cmp k)) es w))) [
        | Less ↦ λ h. (keyed.0, keyed-written es w keyed.1 is)
        | Equal ↦ λ h. (is ∙ int_cmp-IsAntisymmetric k e.0 h, keyed.1)
        | Greater ↦ λ h. (keyed.0, keyed-written es w keyed.1 is)
      ] refl

  pub keyed-put : (es : List (ℤ × Chunk)) (v : Chunk) → AllByRecursion (λ e. e.1.start ≡ e.0) es → v.start ≡ k → AllByRecursion (λ e. e.1.start ≡ e.0) (insert_entry int_cmp es k v)
  keyed-put [] v keyed is = (is, tt)
  keyed-put (e ∷ es) v keyed is =
      elim (int_cmp k e.0) as (λ o. int_cmp k e.0 ≡ o → AllByRecursion (λ e. e.1.start ≡ e.0) (match_ordering o ((k, v) ∷ e ∷ es) ((e.0, v) ∷ es) (e ∷ insert_entry int_cmp es k v))) [
        | Less ↦ λ h. (is, keyed)
        | Equal ↦ λ h. (is ∙ int_cmp-IsAntisymmetric k e.0 h, keyed.1)
        | Greater ↦ λ h. (keyed.0, keyed-put es v keyed.1 is)
      ] refl

  -- the chunk that is found starts there
  pub start-found : (es : List (ℤ × Chunk)) (c : Chunk) → AllByRecursion (λ e. e.1.start ≡ e.0) es → lookup (is_at (int_cmp k)) es ≡ Some c → c.start ≡ k
  start-found [] c keyed there = cc
  start-found (e ∷ es) c keyed there =
      elim (int_cmp k e.0) as (λ o. int_cmp k e.0 ≡ o → cond (is_eq o) (Some e.1) (lookup (is_at (int_cmp k)) es) ≡ Some c → c.start ≡ k) [
        | Less ↦ λ h t. start-found es c keyed.1 t
        | Equal ↦ λ h t. (let same : e.1 ≡ c = cc in ap (λ (x : Chunk). x.start) (sym same) ∙ keyed.0 ∙ sym (int_cmp-IsAntisymmetric k e.0 h))
        | Greater ↦ λ h t. start-found es c keyed.1 t
      ] refl there

  copied : (r : Option (MutBor Chunk)) → is_some (option_copied_mut r) ≡ is_some r
  copied None = refl
  copied (Some b) = refl

  -- a chunk that is there is found to be written
  pub some-there : (es : List (ℤ × Chunk)) → AllByRecursion (λ e. e.1.start ≡ e.0) es → IsStrictlySortedBy int_cmp (keys_of es) → (r : Option (MutBor Chunk)) → option_copied_mut r ≡ lookup (is_at (int_cmp k)) es → IsSome (chunk_in k (values_of es)) → IsSome r
  some-there es keyed up r value some = sym (copied r) ∙ ap is_some (value ∙ looked-up es keyed up) ∙ some

  -- what is written over a chunk starts where it did
  pub kept-start : (es : List (ℤ × Chunk)) (c n : Chunk) → AllByRecursion (λ e. e.1.start ≡ e.0) es → lookup (is_at (int_cmp k)) es ≡ Some c → n.start ≡ c.start → n.start ≡ k
  kept-start es c n keyed there same = same ∙ start-found es c keyed there

-- a chunk that was changed, or that an error left as it was
pub same-start : {T E : Type 0} (r : Result T E) (c n : Chunk) (change : Chunk → Chunk) → ((d : Chunk) → (change d).start ≡ d.start) → OnOk r (n ≡ change c) → OnErr r (n ≡ c) → n.start ≡ c.start
same-start (Ok t) c n change keeps ok err = ap (λ (d : Chunk). d.start) ok ∙ keeps c
same-start (Err e) c n change keeps ok err = ap (λ (d : Chunk). d.start) err

pub grown-start : (serial : ℕ) (e : Event) (c : Chunk) → (grown serial e c).start ≡ c.start
grown-start serial e c = elim (is_full (with_one e c)) as (λ b. (if b then with_open_sealed serial (with_one e c) else with_one e c).start ≡ c.start) [ true ↦ refl | false ↦ refl ]
