-- The chunks of a timeline with one of them changed.
use Rattle.std.proofs.Common.{◌≡◌, ◌∙◌, sym, refl, ap, subst, ℕ, ℤ, ◌+◌, ◌<◌, true, false, List, [], ◌∷◌, length, map, take, drop, zero, suc, ◌||◌, arith}
use Rattle.std.specs.List.{AllByRecursion}
use Rattle.std.specs.List.Sorted.{IsStrictlySortedBy}
use Rattle.std.specs.declared.cmp.Ordering.TheVariants.{Less, Equal, Greater}
use Rattle.std.specs.Ordering.{int_cmp, int_eq, is_eq, match_ordering}
use Rattle.std.specs.FinMap.{int_cmp-IsAntisymmetric}
use Rattle.dr_schema.specs.declared.schema.Schema.{Schema}
use Rattle.dr_chunks.specs.declared.chunk.Chunk.{Chunk}
use Rattle.dr_cuts.specs.AtKey.{at_key, item_at}
use Rattle.dr_cuts.specs.Chunks.{with_value}
use Rattle.dr_cuts.specs.State.{Cut, sealed_in, at_chunk, open_cut}
use Rattle.dr_chunks.specs.Held.{no_chunk, at_start, chunk_at, cut_of, ranges_of, open_count, total_open}
use Rattle.dr_cuts.proofs.Parts.{has, All-below}
use Rattle.dr_chunks.proofs.Places.{IsFirst}

-- the cuts of the changed chunks
pub cuts-at_start : (schema : Schema) (cs : List Chunk) (k : ℤ) (change : Chunk → Chunk) (alter : Cut → Cut) → cut_of (change (chunk_at schema k cs)) ≡ alter (cut_of (chunk_at schema k cs)) → map cut_of (at_start schema change k cs) ≡ at_chunk k alter (map cut_of cs)
unfolding at_key
cuts-at_start schema [] k change alter h = ap (λ c. c ∷ []) h
cuts-at_start schema (c ∷ cs) k change alter h =
    elim (int_cmp k c.start) as (λ o. cut_of (change (match_ordering o (no_chunk schema k) c (chunk_at schema k cs))) ≡ alter (cut_of (match_ordering o (no_chunk schema k) c (chunk_at schema k cs)))
    → map cut_of (match_ordering o (change (no_chunk schema k) ∷ c ∷ cs) (change c ∷ cs) (c ∷ at_start schema change k cs)) ≡ match_ordering o (alter (open_cut k) ∷ cut_of c ∷ map cut_of cs) (alter (cut_of c) ∷ map cut_of cs) (cut_of c ∷ at_chunk k alter (map cut_of cs))) [
      | Less ↦ λ e. ap (λ d. d ∷ cut_of c ∷ map cut_of cs) e
      | Equal ↦ λ e. ap (λ d. d ∷ map cut_of cs) e
      | Greater ↦ λ e. ap (λ ds. cut_of c ∷ ds) (cuts-at_start schema cs k change alter e)
    ] h

-- the sealed ranges of a chunk
pub sealed_in-cuts : (schema : Schema) (cs : List Chunk) (k : ℤ) → sealed_in k (map cut_of cs) ≡ ranges_of (chunk_at schema k cs)
sealed_in-cuts schema [] k = refl
sealed_in-cuts schema (c ∷ cs) k =
    elim (int_cmp k c.start) as (λ o. match_ordering o [] (ranges_of c) (sealed_in k (map cut_of cs)) ≡ ranges_of (match_ordering o (no_chunk schema k) c (chunk_at schema k cs)))
    [ Less ↦ refl | Equal ↦ refl | Greater ↦ sealed_in-cuts schema cs k ]

-- a chunk that stands there is no new one
pub starts-here : (schema : Schema) (cs : List Chunk) (k : ℤ) (i : ℕ) (change : Chunk → Chunk) → ((c : Chunk) → (change c).start ≡ c.start) → i < length cs → AllByRecursion (λ d. int_cmp k d.start ≡ Greater) (take i cs) → IsFirst k (drop i cs)
    → map (λ c. c.start) (at_start schema change k cs) ≡ map (λ c. c.start) cs
unfolding at_key
starts-here schema [] k i change keeps lt before here = absurd (omega arith)
starts-here schema (c ∷ cs) k zero change keeps lt before here = rw here (ap (λ j. j ∷ map (λ c. c.start) cs) (keeps c))
starts-here schema (c ∷ cs) k (suc i) change keeps lt before here = rw before.0 (ap (λ js. c.start ∷ js) (starts-here schema cs k i change keeps (omega arith) before.1 here))

-- how many events are open, with one chunk changed
pub total-at_start : (schema : Schema) (cs : List Chunk) (k : ℤ) (change : Chunk → Chunk) → total_open (at_start schema change k cs) + open_count (chunk_at schema k cs) ≡ total_open cs + open_count (change (chunk_at schema k cs))
unfolding at_key
total-at_start schema [] k change = omega arith
total-at_start schema (c ∷ cs) k change =
    elim (int_cmp k c.start) as (λ o. total_open (match_ordering o (change (no_chunk schema k) ∷ c ∷ cs) (change c ∷ cs) (c ∷ at_start schema change k cs)) + open_count (match_ordering o (no_chunk schema k) c (chunk_at schema k cs))
    ≡ open_count c + total_open cs + open_count (change (match_ordering o (no_chunk schema k) c (chunk_at schema k cs)))) [
      | Less ↦ omega arith
      | Equal ↦ omega arith
      | Greater ↦ let so_far = total-at_start schema cs k change in omega arith
    ]

-- ---- items of a list that rises by a key

has-below : (q : ℤ) (ks : List ℤ) → AllByRecursion (λ j. int_cmp q j ≡ Less) ks → has q ks ≡ false
has-below q [] h = refl
has-below q (k ∷ ks) h = λ i. is_eq (h.0 i) || has-below q ks h.1 i

-- what holds of the item of a key
pub All-item_at : {A : Type 0} (key : A → ℤ) (fresh : A) (P : A → Type 0) (xs : List A) (k : ℤ) → key fresh ≡ k → AllByRecursion P xs → (has k (map key xs) ≡ false → P fresh) → IsStrictlySortedBy int_cmp (map key xs)
    → P (item_at key fresh k xs) × (key (item_at key fresh k xs) ≡ k)
unfolding IsStrictlySortedBy
All-item_at key fresh P [] k at all none rising = (none refl, at)
All-item_at key fresh P (x ∷ xs) k at all none rising =
    elim (int_cmp k (key x)) as (λ o. int_cmp k (key x) ≡ o → P (match_ordering o fresh x (item_at key fresh k xs)) × (key (match_ordering o fresh x (item_at key fresh k xs)) ≡ k)) [
      | Less ↦ λ h. (none (has-below k (key x ∷ map key xs) (h, All-below k (key x) (map key xs) h rising.0)), at)
      | Equal ↦ λ h. (all.0, sym (int_cmp-IsAntisymmetric k (key x) h))
      | Greater ↦ λ h. All-item_at key fresh P xs k at all.1 (λ f. none (ap (λ o. is_eq o || has k (map key xs)) h ∙ f)) rising.1
    ] refl

-- what holds of each item, of the changed one and of those of other keys
pub All-at_key : {A : Type 0} (key : A → ℤ) (fresh : A) (P Q : A → Type 0) (xs : List A) (k : ℤ) (change : A → A) → ((x : A) → int_eq k (key x) ≡ false → P x → Q x) → Q (change (item_at key fresh k xs)) → AllByRecursion P xs → IsStrictlySortedBy int_cmp (map key xs)
    → AllByRecursion Q (at_key key fresh change k xs)
unfolding at_key IsStrictlySortedBy
All-at_key key fresh P Q [] k change other here all rising = (here, tt)
All-at_key {A = A} key fresh P Q (x ∷ xs) k change other here all rising =
    elim (int_cmp k (key x)) as (λ o. int_cmp k (key x) ≡ o → Q (change (match_ordering o fresh x (item_at key fresh k xs))) → AllByRecursion Q (match_ordering o (change fresh ∷ x ∷ xs) (change x ∷ xs) (x ∷ at_key key fresh change k xs))) [
      | Less ↦ λ h q. (q, others (x ∷ xs) (h, All-below k (key x) (map key xs) h rising.0) all)
      | Equal ↦ λ h q.
          let same : k ≡ key x = int_cmp-IsAntisymmetric k (key x) h in
          (q, others xs (subst (λ (z : ℤ). AllByRecursion (λ j. int_cmp z j ≡ Less) (map key xs)) (sym same) rising.0) all.1)
      | Greater ↦ λ h q. (other x (ap is_eq h) all.0, All-at_key key fresh P Q xs k change other q all.1 rising.1)
    ] refl here
  where
    others : (ys : List A) → AllByRecursion (λ j. int_cmp k j ≡ Less) (map key ys) → AllByRecursion P ys → AllByRecursion Q ys
    others [] below all = tt
    others (y ∷ ys) below all = (other y (ap is_eq below.0) all.0, others ys below.1 all.1)

-- the keys of the changed items
pub keys-at_key : {A : Type 0} (key : A → ℤ) (fresh : A) (xs : List A) (k : ℤ) (change : A → A) → ((x : A) → key (change x) ≡ key x) → key fresh ≡ k → map key (at_key key fresh change k xs) ≡ with_value k (map key xs)
unfolding at_key with_value
keys-at_key key fresh [] k change keeps at = ap (λ j. j ∷ []) (keeps fresh ∙ at)
keys-at_key key fresh (x ∷ xs) k change keeps at =
    elim (int_cmp k (key x)) as (λ o. map key (match_ordering o (change fresh ∷ x ∷ xs) (change x ∷ xs) (x ∷ at_key key fresh change k xs)) ≡ match_ordering o (k ∷ key x ∷ map key xs) (key x ∷ map key xs) (key x ∷ with_value k (map key xs))) [
      | Less ↦ ap (λ j. j ∷ key x ∷ map key xs) (keeps fresh ∙ at)
      | Equal ↦ ap (λ j. j ∷ map key xs) (keeps x)
      | Greater ↦ ap (λ js. key x ∷ js) (keys-at_key key fresh xs k change keeps at)
    ]

-- a key that is there is no new one
pub with_value-there : (k : ℤ) (ks : List ℤ) → has k ks ≡ true → IsStrictlySortedBy int_cmp ks → with_value k ks ≡ ks
unfolding with_value IsStrictlySortedBy
with_value-there k [] there rising = cc
with_value-there k (j ∷ js) there rising =
    elim (int_cmp k j) as (λ o. int_cmp k j ≡ o → (is_eq o || has k js) ≡ true → match_ordering o (k ∷ j ∷ js) (j ∷ js) (j ∷ with_value k js) ≡ j ∷ js) [
      | Less ↦ λ h t. let none = has-below k js (All-below k j js h rising.0) in cc
      | Equal ↦ λ h t. refl
      | Greater ↦ λ h t. ap (λ l. j ∷ l) (with_value-there k js t rising.1)
    ] refl there

-- ---- chunks

-- what holds of the chunk there
pub All-chunk_at : (schema : Schema) (P : Chunk → Type 0) (cs : List Chunk) (k : ℤ) → AllByRecursion P cs → (has k (map (λ c. c.start) cs) ≡ false → P (no_chunk schema k)) → IsStrictlySortedBy int_cmp (map (λ c. c.start) cs) → P (chunk_at schema k cs) × ((chunk_at schema k cs).start ≡ k)
All-chunk_at schema P cs k all none rising = All-item_at (λ c. c.start) (no_chunk schema k) P cs k refl all none rising

-- what holds of each chunk, of the changed one and of those that start elsewhere
pub All-at_start : (schema : Schema) (P Q : Chunk → Type 0) (cs : List Chunk) (k : ℤ) (change : Chunk → Chunk) → ((c : Chunk) → int_eq k c.start ≡ false → P c → Q c) → Q (change (chunk_at schema k cs)) → AllByRecursion P cs → IsStrictlySortedBy int_cmp (map (λ c. c.start) cs)
    → AllByRecursion Q (at_start schema change k cs)
All-at_start schema P Q cs k change other here all rising = All-at_key (λ c. c.start) (no_chunk schema k) P Q cs k change other here all rising

-- the starts of the changed chunks
pub starts-at_start : (schema : Schema) (cs : List Chunk) (k : ℤ) (change : Chunk → Chunk) → ((c : Chunk) → (change c).start ≡ c.start) → map (λ c. c.start) (at_start schema change k cs) ≡ with_value k (map (λ c. c.start) cs)
starts-at_start schema cs k change keeps = keys-at_key (λ (c : Chunk). c.start) (no_chunk schema k) cs k change keeps refl
