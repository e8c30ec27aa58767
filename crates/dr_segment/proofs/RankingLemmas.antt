-- The values of rows: numbered as they first come, sorted, and numbered anew.
use Rattle.std.proofs.Common.{◌≡◌, ◌∙◌, sym, refl, ap, subst, ℕ, zero, suc, ◌+◌, ◌<◌, true, false, cond, List, [], ◌∷◌, ◌++◌, map, length, get_or, set, bytes_eq, slice_get, Some, arith, All, ◌⊎◌, inl, inr}
use Rattle.std.specs.List.{list_any, range_with_len}
use Rattle.std.specs.List.Sorted.{IsPermutation, IsSortedBy}
use Rattle.std.specs.Ordering.{nat_cmp, is_lt}
use Rattle.std.specs.Cmp.Lexicographic.{slice_cmp}
use Rattle.std.proofs.lemmas.Bool.{cases_eq}
use Rattle.std.proofs.lemmas.List.{length-map, map-append, get_or-map, get_or-set_same, get_or-set_other, get_or_append_left, length-append, get_or_default}
use Rattle.std.proofs.lemmas.Option.{slice_get_within, slice_get-get_or, get_or_from_slice_get, same_Some}
use Rattle.std.proofs.lemmas.List.Sorted.{IsPermutation-map, All-permutation, Contains-permutation, length_permutation}
use Rattle.std.proofs.lemmas.List.FromFn.{get_or-range_with_len}
use Rattle.dr_dict.proofs.SortedTexts.{distinct-moved, sorted-map}
use Rattle.dr_image.specs.Sealed.{each_next}
use Rattle.dr_image.specs.Opening.{is_below}
use Rattle.dr_image.specs.Image.{dictionary_of, number_in}
use Rattle.dr_image.proofs.DictionaryLemmas.{number_at_place}
use Rattle.dr_segment.specs.Columns.{IsDistinctOf, AreFirsts, AddsText, AreRanked, AreApart, AreRanks}
use Rattle.dr_segment.proofs.ColumnLemmas.{distinct_none, distinct_same, distinct_more, ascends, sorted_dictionary}

-- ---- as they first come

-- a text that is there, and one that is new
pub known-added : (texts : List (List ℕ)) (text : List ℕ) → list_any (bytes_eq text) texts ≡ true → AddsText texts texts text
known-added texts text there = sym (ap (λ b. cond b texts (texts ++ text ∷ [])) there)

pub new-added : (old new : List (List ℕ)) (text : List ℕ) → list_any (bytes_eq text) old ≡ false → new ≡ old ++ text ∷ [] → AddsText old new text
new-added old new text none is = is ∙ sym (ap (λ b. cond b old (old ++ text ∷ [])) none)

pub last-there : (texts : List (List ℕ)) (text : List ℕ) → slice_get (texts ++ text ∷ []) (length texts) ≡ Some text
last-there [] text = refl
last-there (t ∷ texts) text = last-there texts text

stays : (xs : List (List ℕ)) (x : List ℕ) (n : ℕ) (v : List ℕ) → slice_get xs n ≡ Some v → slice_get (xs ++ x ∷ []) n ≡ Some v
stays xs x n v at =
    let lt = slice_get_within xs n v at in
    slice_get-get_or (xs ++ x ∷ []) n v (omega (arith, length-append xs (x ∷ []))) ∙ ap Some (get_or_append_left xs (x ∷ []) v n lt ∙ get_or_from_slice_get xs n v v at)

all_stay : (xs : List (List ℕ)) (x : List ℕ) (ns : List ℕ) (vs : List (List ℕ)) → map (slice_get xs) ns ≡ map Some vs → map (slice_get (xs ++ x ∷ [])) ns ≡ map Some vs
all_stay xs x [] [] at = refl
all_stay xs x [] (v ∷ vs) at = absurd (cc)
all_stay xs x (n ∷ ns) [] at = absurd (cc)
all_stay xs x (n ∷ ns) (v ∷ vs) at =
    let first : slice_get xs n ≡ Some v = cc in
    let rest : map (slice_get xs) ns ≡ map Some vs = cc in
    λ i. stays xs x n v first i ∷ all_stay xs x ns vs rest i

pub firsts_none : AreFirsts [] [] []
firsts_none = record { distinct = distinct_none; each = refl }

-- one more value
pub firsts_more : (old new values : List (List ℕ)) (places : List ℕ) (text : List ℕ) (place : ℕ) → AddsText old new text → slice_get new place ≡ Some text → AreFirsts old places values → AreFirsts new (places ++ place ∷ []) (values ++ text ∷ [])
firsts_more old new values places text place added at so_far =
    elim (list_any (bytes_eq text) old) as (λ b. list_any (bytes_eq text) old ≡ b → new ≡ cond b old (old ++ text ∷ []) → AreFirsts new (places ++ place ∷ []) (values ++ text ∷ [])) [
      | true ↦ λ there is. record {
        distinct = subst (λ (t : List (List ℕ)). IsDistinctOf t (values ++ text ∷ [])) (sym is) (distinct_same old values text so_far.distinct there);
        each = last (ap (λ (t : List (List ℕ)). map (slice_get t) places) is ∙ so_far.each);
      }
      | false ↦ λ fresh is. record {
        distinct = subst (λ (t : List (List ℕ)). IsDistinctOf t (values ++ text ∷ [])) (sym is) (distinct_more old values text so_far.distinct fresh);
        each = last (ap (λ (t : List (List ℕ)). map (slice_get t) places) is ∙ all_stay old text places values so_far.each);
      }
    ]
    refl added
  where
    last : map (slice_get new) places ≡ map Some values → map (slice_get new) (places ++ place ∷ []) ≡ map Some (values ++ text ∷ [])
    last before = map-append (slice_get new) places (place ∷ []) ∙ (λ i. before i ++ at i ∷ []) ∙ sym (map-append Some values (text ∷ []))

-- ---- in the order of their bytes

-- texts with their places, sorted by the texts
pub ranked_by : {R : Type 0} (f : R → List ℕ) (g : R → ℕ) (d : R) (texts : List (List ℕ)) (before after : List R) → map f before ≡ texts → map g before ≡ range_with_len 0 (length texts) → IsPermutation before after
    → IsSortedBy (λ a b. is_lt (slice_cmp nat_cmp (f a) (f b))) after → AreRanked texts (map f after) (map g after)
ranked_by {R} f g d texts before after are at moved up = record {
  moved = subst (λ (t : List (List ℕ)). IsPermutation t (map f after)) are (IsPermutation-map f before after moved);
  rises = sorted-map f after up;
  long = length-map after g ∙ sym (length-map after f);
  each = λ k lt. each k (omega (arith, length-map after f));
  all = λ n lt. Contains-permutation (map g before) (map g after) n (IsPermutation-map g before after moved) (n, omega (arith, length-map before g, short), place n n (omega (arith, short)));
}
  where
    short : length before ≡ length texts
    short = sym (length-map before f) ∙ ap length are

    place : (n e : ℕ) → n < length before → get_or (map g before) n e ≡ n
    place n e lt = ap (λ (k : List ℕ). get_or k n e) at ∙ get_or-range_with_len 0 (length texts) n e (omega (arith, short)) ∙ omega arith

    P : R → Type 0
    P r = slice_get texts (g r) ≡ Some (f r)

    all_before : All P before
    all_before n e lt =
        let number : g (get_or before n e) ≡ n = sym (get_or-map g before n e 0 lt) ∙ place n 0 lt in
        let text : f (get_or before n e) ≡ get_or texts n [] = sym (get_or-map f before n e [] lt) ∙ ap (λ (t : List (List ℕ)). get_or t n []) are in
        ap (slice_get texts) number ∙ slice_get-get_or texts n [] (omega (arith, short)) ∙ ap Some (sym text)

    each : (k : ℕ) → k < length after → slice_get texts (get_or (map g after) k 0) ≡ Some (get_or (map f after) k [])
    each k lt = ap (slice_get texts) (get_or-map g after k d 0 lt) ∙ All-permutation P before after moved all_before k d lt ∙ ap Some (sym (get_or-map f after k d [] lt))

-- ---- numbered anew

-- one more rank
pub rank_more : (places ranks : List ℕ) (i p : ℕ) → length ranks ≡ length places → AreApart places → ((k : ℕ) → k < i → get_or ranks (get_or places k 0) 0 ≡ k) → i < length places → p ≡ get_or places i 0 → p < length ranks
    → (k : ℕ) → k < i + 1 → get_or (set ranks p i) (get_or places k 0) 0 ≡ k
rank_more places ranks i p long apart so_far lt is inside k low = at (cases_eq k i)
  where
    at : (k ≡ i) ⊎ (k ≡ i → ⊥) → get_or (set ranks p i) (get_or places k 0) 0 ≡ k
    at (inl e) = ap (λ n. get_or (set ranks p i) n 0) (ap (λ n. get_or places n 0) e ∙ sym is) ∙ get_or-set_same ranks p i 0 inside ∙ sym e
    at (inr ne) = get_or-set_other ranks p (get_or places k 0) i 0 (λ e. ne (apart.apart k i (omega (arith, ne)) lt (e ∙ is))) ∙ so_far k (omega (arith, ne))

module _ (texts sorted values : List (List ℕ)) (firsts places ranks : List ℕ) (first : AreFirsts texts firsts values) (ranked : AreRanked texts sorted places) where
  long : length sorted ≡ length texts
  long = length_permutation texts sorted ranked.moved

  pub inside : All (λ n. n < length sorted) places
  inside k d lt =
      let low : k < length sorted = let l = ranked.long in omega arith in
      let at = slice_get_within texts (get_or places k 0) (get_or sorted k []) (ranked.each k low) in
      subst (λ n. n < length sorted) (get_or_default places k 0 d lt) (omega (arith, long))

  pub rises : each_next is_below sorted ≡ true
  rises = ascends sorted ranked.rises (distinct-moved texts sorted ranked.moved first.distinct.distinct)

  pub apart : AreApart places
  apart = record {
    apart = λ i j li lj e.
        let a : i < length sorted = let l = ranked.long in omega arith in
        let b : j < length sorted = let l = ranked.long in omega arith in
        let same : get_or sorted i [] ≡ get_or sorted j [] = same_Some _ _ (sym (ranked.each i a) ∙ ap (slice_get texts) e ∙ ranked.each j b) in
        sym (number_at_place sorted i (get_or sorted j []) rises a same) ∙ number_at_place sorted j (get_or sorted j []) rises b refl;
  }

  pub dictionary : sorted ≡ dictionary_of values
  dictionary = sorted_dictionary texts values sorted first.distinct ranked.moved ranked.rises

  each_known : (ns : List ℕ) (vs : List (List ℕ)) → map (slice_get texts) ns ≡ map Some vs → All (λ n. n < length texts) ns
  each_known [] vs at k d lt = absurd (omega arith)
  each_known (n ∷ ns) [] at k d lt = absurd (cc)
  each_known (n ∷ ns) (v ∷ vs) at zero d lt = slice_get_within texts n v (cc)
  each_known (n ∷ ns) (v ∷ vs) at (suc k) d lt = let rest : map (slice_get texts) ns ≡ map Some vs = cc in each_known ns vs rest k d (omega arith)

  pub firsts_known : All (λ n. n < length texts) firsts
  firsts_known = each_known firsts values first.each

  -- a place has its rank
  record HasRank (n : ℕ) (v : List ℕ) : Type 0 where
    low : get_or ranks n 0 < length sorted
    is : get_or ranks n 0 ≡ number_in sorted v

  rank_of : AreRanks places ranks → (n : ℕ) (v : List ℕ) → slice_get texts n ≡ Some v → HasRank n v
  rank_of are n v at =
      let there = ranked.all n (slice_get_within texts n v at) in
      let k = there.0 in
      let lt : k < length places = there.1 in
      let here : get_or places k 0 ≡ n = get_or_default places k 0 n lt ∙ there.2 in
      let low : k < length sorted = let l = ranked.long in omega arith in
      let rank : get_or ranks n 0 ≡ k = ap (λ m. get_or ranks m 0) (sym here) ∙ are.each k lt in
      let text : get_or sorted k [] ≡ v = same_Some _ _ (sym (ranked.each k low) ∙ ap (slice_get texts) here ∙ at) in
      record { low = omega arith; is = rank ∙ sym (number_at_place sorted k v rises low text) }

  each_rank : AreRanks places ranks → (ns : List ℕ) (vs : List (List ℕ)) → map (slice_get texts) ns ≡ map Some vs → map (λ n. get_or ranks n 0) ns ≡ map (number_in sorted) vs
  each_rank are [] [] at = refl
  each_rank are [] (v ∷ vs) at = absurd (cc)
  each_rank are (n ∷ ns) [] at = absurd (cc)
  each_rank are (n ∷ ns) (v ∷ vs) at =
      let first_at : slice_get texts n ≡ Some v = cc in
      let rest : map (slice_get texts) ns ≡ map Some vs = cc in
      let here : get_or ranks n 0 ≡ number_in sorted v = (rank_of are n v first_at).is in
      λ i. here i ∷ each_rank are ns vs rest i

  pub numbers : AreRanks places ranks → map (λ n. get_or ranks n 0) firsts ≡ map (number_in sorted) values
  numbers are = each_rank are firsts values first.each

  each_low : AreRanks places ranks → (ns : List ℕ) (vs : List (List ℕ)) → map (slice_get texts) ns ≡ map Some vs → All (λ n. n < length sorted) (map (λ n. get_or ranks n 0) ns)
  each_low are [] vs at k d lt = absurd (omega arith)
  each_low are (n ∷ ns) [] at k d lt = absurd (cc)
  each_low are (n ∷ ns) (v ∷ vs) at zero d lt = let first_at : slice_get texts n ≡ Some v = cc in (rank_of are n v first_at).low
  each_low are (n ∷ ns) (v ∷ vs) at (suc k) d lt = let rest : map (slice_get texts) ns ≡ map Some vs = cc in each_low are ns vs rest k d (omega arith)

  pub numbers_low : AreRanks places ranks → All (λ n. n < length sorted) (map (λ n. get_or ranks n 0) firsts)
  numbers_low are = each_low are firsts values first.each
