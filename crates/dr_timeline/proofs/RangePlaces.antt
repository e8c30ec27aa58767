-- The places of ranges in their chunks, found one after the other.
use Rattle.std.proofs.Common.{◌≡◌, ◌∙◌, sym, refl, ap, subst, ℕ, ℤ, ◌+◌, ◌≤ℤ◌, ◌<ℤ◌, Bool, true, false, true≢false, cond, List, [], ◌∷◌, ◌++◌, length, map, filter, Option, Some, None, arith}
use Rattle.std.specs.List.{AllByRecursion}
use Rattle.std.specs.List.Sorted.{IsStrictlySortedBy}
use Rattle.std.specs.declared.cmp.Ordering.TheVariants.{Less, Equal}
use Rattle.std.specs.Ordering.{int_cmp, int_eq}
use Rattle.std.proofs.lemmas.Cmp.{int_ranked}
use Rattle.std.proofs.lemmas.Int.{ints}
use Rattle.dr_base.specs.declared.event.Event.{Event}
use Rattle.dr_gran.proofs.TruncationLemmas.{truncation_bounds}
use Rattle.dr_schema.specs.declared.schema.Schema.{Schema}
use Rattle.dr_schema.specs.Fits.{FitsSchema}
use Rattle.dr_time.specs.Instant.{IsInstant, first_instant}
use Rattle.dr_cuts.specs.declared.range_info.RangeInfo.{RangeInfo}
use Rattle.dr_cuts.specs.Chunks.{chunk, with_value, values_onto}
use Rattle.dr_cuts.specs.Segments.{infos, infos_of_cut, sealed_info, open_info}
use Rattle.dr_cuts.specs.State.{AreCuts, Cut, Range, open_from}
use Rattle.dr_cuts.proofs.Parts.{int_eq-itself, is_eq-true, rising-values, All-with_value}
use Rattle.dr_timeline.specs.Numbered.{next_place, numbered}
use Rattle.dr_timeline.specs.Scanning.{segments_behind, segment_at}
use Rattle.dr_timeline.proofs.Pinning.{rows_of_range}

-- ---- the chunks of events are instants

instants-onto : (schema : Schema) (ks : List ℤ) (es : List Event) → AllByRecursion IsInstant ks → AllByRecursion (FitsSchema schema) es → AllByRecursion IsInstant (values_onto (chunk schema) ks es)
unfolding values_onto
instants-onto schema ks [] h fit = h
instants-onto schema ks (e ∷ es) h fit =
    let bounds = truncation_bounds schema.segment_granularity e.time (chunk schema e) fit.0.time refl in
    instants-onto schema (with_value (chunk schema e) ks) es (All-with_value IsInstant (chunk schema e) ks (bounds.0, omega (arith, ints, bounds.1, fit.0.time.1)) h) fit.1

-- ---- the chunks of the ranges of cuts

All-append : {A : Type 0} (P : A → Type 0) (xs ys : List A) → AllByRecursion P xs → AllByRecursion P ys → AllByRecursion P (xs ++ ys)
All-append P [] ys a b = b
All-append P (x ∷ xs) ys a b = (a.0, All-append P xs ys a.1 b)

sealed-in : (schema : Schema) (es : List Event) (k : ℤ) (ranges : List Range) → AllByRecursion (λ r. r.chunk ≡ k) (map (sealed_info schema es k) ranges)
sealed-in schema es k [] = tt
sealed-in schema es k (r ∷ rs) = (refl, sealed-in schema es k rs)

all-in : (schema : Schema) (es : List Event) (c : Cut) → AllByRecursion (λ r. r.chunk ≡ c.chunk) (infos_of_cut schema es c)
all-in schema es c = All-append (λ r. r.chunk ≡ c.chunk) (map (sealed_info schema es c.chunk) c.sealed) _ (sealed-in schema es c.chunk c.sealed) (opened _)
  where
    opened : (b : Bool) → AllByRecursion (λ r. r.chunk ≡ c.chunk) (cond b (open_info schema es c.chunk (open_from c.sealed) ∷ []) [])
    opened true = (refl, tt)
    opened false = tt

from-one : (P : ℤ → Type 0) (k : ℤ) (rs : List RangeInfo) → P k → AllByRecursion (λ r. r.chunk ≡ k) rs → AllByRecursion (λ r. P r.chunk) rs
from-one P k [] p h = tt
from-one P k (r ∷ rs) p h = (subst P (sym h.0) p, from-one P k rs p h.1)

All-infos : (P : ℤ → Type 0) (schema : Schema) (es : List Event) (cuts : List Cut) → AllByRecursion P (map (λ c. c.chunk) cuts) → AllByRecursion (λ r. P r.chunk) (infos schema es cuts)
All-infos P schema es [] h = tt
All-infos P schema es (c ∷ cs) h =
    All-append (λ r. P r.chunk) (infos_of_cut schema es c) (infos schema es cs) (from-one P c.chunk (infos_of_cut schema es c) h.0 (all-in schema es c)) (All-infos P schema es cs h.1)

-- the chunk of a range is an instant
pub instants-infos : (schema : Schema) (es : List Event) (cuts : List Cut) → AreCuts schema es cuts → AllByRecursion (FitsSchema schema) es → AllByRecursion (λ r. IsInstant r.chunk) (infos schema es cuts)
instants-infos schema es cuts are fit = All-infos IsInstant schema es cuts (subst (AllByRecursion IsInstant) (sym are.chunks) (instants-onto schema [] es tt fit))

-- ---- they don't fall

-- each chunk is that of the range before, or a later one
abbrev Rise : ℤ → List RangeInfo → Type 0
Rise k [] = Unit {0}
Rise k (r ∷ rs) = (k ≤ℤ r.chunk) × Rise r.chunk rs

rise-earlier : (j k : ℤ) (rs : List RangeInfo) → j ≤ℤ k → Rise k rs → Rise j rs
rise-earlier j k [] le h = tt
rise-earlier j k (r ∷ rs) le h = (omega (arith, ints, le, h.0), h.1)

itself : (k : ℤ) → k ≤ℤ k
itself k = omega (arith, ints)

rise-block : (j k : ℤ) (rs after : List RangeInfo) → AllByRecursion (λ r. r.chunk ≡ k) rs → j ≤ℤ k → Rise k after → Rise j (rs ++ after)
rise-block j k [] after all le h = rise-earlier j k after le h
rise-block j k (r ∷ rs) after all le h =
    (subst (λ (x : ℤ). j ≤ℤ x) (sym all.0) le, subst (λ (x : ℤ). Rise x (rs ++ after)) (sym all.0) (rise-block k k rs after all.1 (itself k) h))

less-le : (j : ℤ) (ks : List ℤ) → AllByRecursion (λ k. int_cmp j k ≡ Less) ks → AllByRecursion (λ k. j ≤ℤ k) ks
less-le j [] h = tt
less-le j (k ∷ ks) h = (omega (arith, ints, int_ranked j k Less (sym h.0)), less-le j ks h.1)

rise-cuts : (schema : Schema) (es : List Event) (j : ℤ) (cuts : List Cut) → AllByRecursion (λ k. j ≤ℤ k) (map (λ c. c.chunk) cuts) → IsStrictlySortedBy int_cmp (map (λ c. c.chunk) cuts) → Rise j (infos schema es cuts)
unfolding IsStrictlySortedBy
rise-cuts schema es j [] le rising = tt
rise-cuts schema es j (c ∷ cs) le rising =
    rise-block j c.chunk (infos_of_cut schema es c) (infos schema es cs) (all-in schema es c) le.0 (rise-cuts schema es c.chunk cs (less-le c.chunk (map (λ c. c.chunk) cs) rising.0) rising.1)

abbrev Rising : List RangeInfo → Type 0
Rising [] = Unit {0}
Rising (r ∷ rs) = Rise r.chunk rs

rise-any : (j : ℤ) (rs : List RangeInfo) → Rise j rs → Rising rs
rise-any j [] h = tt
rise-any j (r ∷ rs) h = h.1

rising-infos : (schema : Schema) (es : List Event) (cuts : List Cut) → AreCuts schema es cuts → AllByRecursion (FitsSchema schema) es → Rising (infos schema es cuts)
rising-infos schema es cuts are fit =
    let rising : IsStrictlySortedBy int_cmp (map (λ c. c.chunk) cuts) = subst (λ (ks : List ℤ). IsStrictlySortedBy int_cmp ks) (sym are.chunks) (rising-values (chunk schema) es) in
    let instants : AllByRecursion IsInstant (map (λ c. c.chunk) cuts) = subst (AllByRecursion IsInstant) (sym are.chunks) (instants-onto schema [] es tt fit) in
    rise-any first_instant (infos schema es cuts) (rise-cuts schema es first_instant cuts (lows (map (λ c. c.chunk) cuts) instants) rising)
  where
    lows : (ks : List ℤ) → AllByRecursion IsInstant ks → AllByRecursion (λ k. first_instant ≤ℤ k) ks
    lows [] h = tt
    lows (k ∷ ks) h = (h.0.0, lows ks h.1)

-- ---- the place of a range is the number of those of its chunk before it

equal_from : (a b : ℤ) → int_eq a b ≡ true → a ≡ b
equal_from a b h = int_ranked a b Equal (sym (is_eq-true (int_cmp a b) h))

apart_from : (a b : ℤ) → int_eq a b ≡ false → a ≡ b → ⊥
apart_from a b h same = true≢false (sym (int_eq-itself b) ∙ subst (λ (x : ℤ). int_eq x b ≡ false) same h)

abbrev count : ℤ → List RangeInfo → ℕ
count k rs = length (filter (λ r. int_eq r.chunk k) rs)

count-push : (k : ℤ) (rs : List RangeInfo) (r : RangeInfo) → count k (rs ++ r ∷ []) ≡ count k rs + cond (int_eq r.chunk k) 1 0
count-push k [] r = elim (int_eq r.chunk k) as (λ b. length (cond b (r ∷ []) []) ≡ 0 + cond b 1 0) [ true ↦ refl | false ↦ refl ]
count-push k (x ∷ xs) r =
    let rest = count-push k xs r in
    elim (int_eq x.chunk k) as (λ b. length (cond b (x ∷ filter (λ r. int_eq r.chunk k) (xs ++ r ∷ [])) (filter (λ r. int_eq r.chunk k) (xs ++ r ∷ [])))
    ≡ length (cond b (x ∷ filter (λ r. int_eq r.chunk k) xs) (filter (λ r. int_eq r.chunk k) xs)) + cond (int_eq r.chunk k) 1 0)
    [ true ↦ omega arith | false ↦ rest ]

count-none : (k j : ℤ) (rs : List RangeInfo) → AllByRecursion (λ r. r.chunk ≤ℤ j) rs → j <ℤ k → count k rs ≡ 0
count-none k j [] h less = refl
count-none k j (r ∷ rs) h less = ap (λ (b : Bool). length (cond b (r ∷ filter (λ r. int_eq r.chunk k) rs) (filter (λ r. int_eq r.chunk k) rs))) other ∙ count-none k j rs h.1 less
  where
    other : int_eq r.chunk k ≡ false
    other = at (int_eq r.chunk k) refl
      where
        at : (b : Bool) → int_eq r.chunk k ≡ b → int_eq r.chunk k ≡ false
        at true e = absurd (omega (arith, ints, h.0, less, equal_from r.chunk k e))
        at false e = e

-- the last of some ranges has that chunk and place, and none has a later chunk
abbrev IsLast : List RangeInfo → Option (ℤ × ℕ) → Type 0
IsLast before None = before ≡ []
IsLast before (Some last) = (count last.0 before ≡ last.1 + 1) × AllByRecursion (λ r. r.chunk ≤ℤ last.0) before

-- the next one isn't of an earlier chunk
abbrev IsBelow : Option (ℤ × ℕ) → ℤ → Type 0
IsBelow None k = Unit {0}
IsBelow (Some last) k = last.0 ≤ℤ k

place-is : (before : List RangeInfo) (last : Option (ℤ × ℕ)) (k : ℤ) → IsLast before last → IsBelow last k → next_place last k ≡ count k before
place-is before None k h low = ap (λ rs. count k rs) (sym h)
place-is before (Some last) k h low = at (int_eq last.0 k) refl
  where
    at : (b : Bool) → int_eq last.0 k ≡ b → cond b (last.1 + 1) 0 ≡ count k before
    at true e = let is : last.0 ≡ k = equal_from last.0 k e in sym h.0 ∙ ap (λ j. count j before) is
    at false e = let apart : last.0 ≡ k → ⊥ = apart_from last.0 k e in let less : last.0 <ℤ k = omega (arith, ints, low, apart) in sym (count-none k last.0 before h.1 less)

below-all : (before : List RangeInfo) (last : Option (ℤ × ℕ)) (k : ℤ) → IsLast before last → IsBelow last k → AllByRecursion (λ r. r.chunk ≤ℤ k) before
below-all before None k h low = subst (AllByRecursion (λ r. r.chunk ≤ℤ k)) (sym h) tt
below-all before (Some last) k h low = weaker before h.1
  where
    weaker : (rs : List RangeInfo) → AllByRecursion (λ r. r.chunk ≤ℤ last.0) rs → AllByRecursion (λ r. r.chunk ≤ℤ k) rs
    weaker [] a = tt
    weaker (r ∷ rs) a = (omega (arith, ints, a.0, low), weaker rs a.1)

last-push : (before : List RangeInfo) (last : Option (ℤ × ℕ)) (r : RangeInfo) → IsLast before last → IsBelow last r.chunk → IsLast (before ++ r ∷ []) (Some (r.chunk, next_place last r.chunk))
last-push before last r h low = (
  count-push r.chunk before r ∙ ap (λ (b : Bool). count r.chunk before + cond b 1 0) (int_eq-itself r.chunk) ∙ ap (λ n. n + 1) (sym (place-is before last r.chunk h low)),
  All-append (λ x. x.chunk ≤ℤ r.chunk) before (r ∷ []) (below-all before last r.chunk h low) (itself r.chunk, tt),
)

-- ranges numbered in turn, with the rollup of their events
numbered-on : (schema : Schema) (es : List Event) (before : List RangeInfo) (last : Option (ℤ × ℕ)) (j : ℤ) (rs : List RangeInfo) → IsLast before last → IsBelow last j → Rise j rs
    → numbered schema last rs (map (rows_of_range schema es) rs) ≡ segments_behind schema es before rs
numbered-on schema es before last j [] h low rise = refl
numbered-on schema es before last j (r ∷ rs) h low rise =
    let below = lower last j r.chunk low rise.0 in
    λ i. segment_at schema es (place-is before last r.chunk h below i) r
    ∷ numbered-on schema es (before ++ r ∷ []) (Some (r.chunk, next_place last r.chunk)) r.chunk rs (last-push before last r h below) (itself r.chunk) rise.1 i
  where
    lower : (last : Option (ℤ × ℕ)) (j k : ℤ) → IsBelow last j → j ≤ℤ k → IsBelow last k
    lower None j k a b = tt
    lower (Some last) j k a b = omega (arith, ints, a, b)

numbered-rising : (schema : Schema) (es : List Event) (rs : List RangeInfo) → Rising rs → numbered schema None rs (map (rows_of_range schema es) rs) ≡ segments_behind schema es [] rs
numbered-rising schema es [] h = refl
numbered-rising schema es (r ∷ rs) h = numbered-on schema es [] None r.chunk (r ∷ rs) refl tt (itself r.chunk, h)

pub numbered-infos : (schema : Schema) (es : List Event) (cuts : List Cut) → AreCuts schema es cuts → AllByRecursion (FitsSchema schema) es
    → numbered schema None (infos schema es cuts) (map (rows_of_range schema es) (infos schema es cuts)) ≡ segments_behind schema es [] (infos schema es cuts)
numbered-infos schema es cuts are fit = numbered-rising schema es (infos schema es cuts) (rising-infos schema es cuts are fit)
