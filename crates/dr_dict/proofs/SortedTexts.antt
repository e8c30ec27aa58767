-- Distinct texts are sorted in one way.
use Rattle.std.proofs.Common.{◌≡◌, ◌∙◌, sym, refl, ap, subst, ℕ, zero, suc, ◌+◌, ◌<◌, true, false, ◌||◌, List, [], ◌∷◌, ◌++◌, map, take, length, get_or, slice_get, Some, Contains, Fits, w32, bytes_eq, arith, true≢false, ◌≤◌}
use Rattle.std.specs.List.{list_any, AllByRecursion, AllZip, IsDistinct}
use Rattle.std.specs.List.Sorted.{IsPermutation, IsSorted, IsSortedBy, IsNonDecreasingBy, IsPartitionPoint}
use Rattle.std.specs.declared.cmp.Ordering.TheVariants.{Less, Equal, Greater}
use Rattle.std.specs.Ordering.{nat_cmp, is_lt, ordering_reverse, ordering_index}
use Rattle.std.specs.Cmp.Lexicographic.{slice_cmp, nat_list_cmp_total, nat_list_eq_equiv, bytes_decides}
use Rattle.std.specs.FinMap.{nat_cmp-IsAntisymmetric, slice_cmp-IsAntisymmetric}
use Rattle.std.proofs.lemmas.Cmp.{tied_itself}
use Rattle.std.proofs.lemmas.List.Sorted.{sorted_far, ranks_by, searchable_from_sorted, Contains-permutation, length_permutation, list_any-IsPermutation}
use Rattle.std.proofs.lemmas.List.{get_or-map, length-map, take_more}
use Rattle.std.proofs.lemmas.Option.{slice_get-get_or, slice_get_within}
use native.Mathlib.Decide.{dec_lt}
use Rattle.indexmap.proofs.MapLemmas.{distinct_permutation}
use Rattle.dr_dict.specs.Sorted.{IsSortedOf}

-- distinct texts stay distinct in another order
pub distinct-moved : (texts others : List (List ℕ)) → IsPermutation texts others → IsDistinct bytes_eq texts → IsDistinct bytes_eq others
distinct-moved = distinct_permutation nat_list_eq_equiv

abbrev pub IsInOrder : List (List ℕ) → Type 0
IsInOrder [] = Unit {0}
IsInOrder (x ∷ xs) = AllByRecursion (λ y. is_lt (slice_cmp nat_cmp y x) ≡ false) xs × IsInOrder xs

all_from_places : (P : List ℕ → Type 0) (xs : List (List ℕ)) → ((k : ℕ) → k < length xs → P (get_or xs k [])) → AllByRecursion P xs
all_from_places P [] each = tt
all_from_places P (x ∷ xs) each = (each 0 (omega arith), all_from_places P xs (λ k lt. each (suc k) (omega arith)))

-- what isn't there
absent : (t : List ℕ) (xs : List (List ℕ)) → AllByRecursion (λ x. bytes_eq t x ≡ false) xs → list_any (bytes_eq t) xs ≡ false
absent t [] all = refl
absent t (x ∷ xs) all = ap (λ b. b || list_any (bytes_eq t) xs) all.0 ∙ absent t xs all.1

all_implied : (P Q : List ℕ → Type 0) → ((x : List ℕ) → P x → Q x) → (xs : List (List ℕ)) → AllByRecursion P xs → AllByRecursion Q xs
all_implied P Q f [] all = tt
all_implied P Q f (x ∷ xs) all = (f x all.0, all_implied P Q f xs all.1)

-- a text below another differs from those that aren't
differs : (t y z : List ℕ) → slice_cmp nat_cmp t y ≡ Less → is_lt (slice_cmp nat_cmp z y) ≡ false → bytes_eq t z ≡ false
differs t y z less not =
    elim (bytes_eq t z) as (λ b. bytes_eq t z ≡ b → b ≡ false)
    [ true ↦ λ e. let same : t ≡ z = (bytes_decides t z).0 e in sym (ap is_lt less) ∙ ap (λ u. is_lt (slice_cmp nat_cmp u y)) same ∙ not | false ↦ λ e. refl ]
    refl

below_first : (t y : List ℕ) (ys : List (List ℕ)) → slice_cmp nat_cmp t y ≡ Less → IsInOrder (y ∷ ys) → list_any (bytes_eq t) (y ∷ ys) ≡ false
below_first t y ys less ord =
    absent t (y ∷ ys) (differs t y y less (ap is_lt (tied_itself nat_list_cmp_total y)), all_implied (λ z. is_lt (slice_cmp nat_cmp z y) ≡ false) (λ z. bytes_eq t z ≡ false) (λ z h. differs t y z less h) ys ord.0)

first_there : (t : List ℕ) (ts : List (List ℕ)) → list_any (bytes_eq t) (t ∷ ts) ≡ true
first_there t ts = ap (λ b. b || list_any (bytes_eq t) ts) (nat_list_eq_equiv.refl t)

same_sorted : (xs ys : List (List ℕ)) → IsInOrder xs → IsInOrder ys → IsDistinct bytes_eq xs → IsDistinct bytes_eq ys → ((t : List ℕ) → list_any (bytes_eq t) xs ≡ list_any (bytes_eq t) ys) → xs ≡ ys
unfolding IsDistinct
same_sorted [] [] ox oy dx dy alike = refl
same_sorted [] (y ∷ ys) ox oy dx dy alike = absurd (true≢false (sym (first_there y ys) ∙ sym (alike y)))
same_sorted (x ∷ xs) [] ox oy dx dy alike = absurd (true≢false (sym (first_there x xs) ∙ alike x))
same_sorted (x ∷ xs) (y ∷ ys) ox oy dx dy alike =
    elim (slice_cmp nat_cmp x y) as (λ o. slice_cmp nat_cmp x y ≡ o → (x ∷ xs) ≡ (y ∷ ys)) [
      | Less ↦ λ t. absurd (true≢false (sym (first_there x xs) ∙ alike x ∙ below_first x y ys t oy))
      | Equal ↦ λ t.
          let same : x ≡ y = slice_cmp-IsAntisymmetric nat_cmp-IsAntisymmetric x y t in
          let rest : (u : List ℕ) → list_any (bytes_eq u) xs ≡ list_any (bytes_eq u) ys = λ u.
          elim (bytes_eq u x) as (λ b. bytes_eq u x ≡ b → list_any (bytes_eq u) xs ≡ list_any (bytes_eq u) ys) [
            | true ↦ λ e.
                let is_x : u ≡ x = (bytes_decides u x).0 e in
                let out_x : list_any (bytes_eq u) xs ≡ false = ap (λ v. list_any (bytes_eq v) xs) is_x ∙ absent x xs dx.0 in
                let out_y : list_any (bytes_eq u) ys ≡ false = ap (λ v. list_any (bytes_eq v) ys) (is_x ∙ same) ∙ absent y ys dy.0 in
                out_x ∙ sym out_y
            | false ↦ λ e.
                let e' : bytes_eq u y ≡ false = ap (bytes_eq u) (sym same) ∙ e in
                sym (ap (λ b. b || list_any (bytes_eq u) xs) e) ∙ alike u ∙ ap (λ b. b || list_any (bytes_eq u) ys) e'
          ]
          refl in
          λ i. same i ∷ same_sorted xs ys ox.1 oy.1 dx.1 dy.1 rest i
      | Greater ↦ λ t.
          let less : slice_cmp nat_cmp y x ≡ Less = nat_list_cmp_total.antisymm y x ∙ ap ordering_reverse t in
          absurd (true≢false (sym (first_there y ys) ∙ sym (alike y) ∙ below_first y x xs less ox))
    ]
    refl

next : (k : ℕ) → suc k + 1 ≡ suc (k + 1)
next k = omega arith

in_order : (xs : List (List ℕ)) → IsSorted (slice_cmp nat_cmp) xs → IsInOrder xs
in_order [] up = tt
in_order (x ∷ xs) up = (
  all_from_places (λ y. is_lt (slice_cmp nat_cmp y x) ≡ false) xs (λ k lt. sorted_far (λ a b. is_lt (slice_cmp nat_cmp a b)) (ranks_by nat_list_cmp_total (λ a. a)) (x ∷ xs) up 0 (suc k) [] (omega arith) (omega arith)),
  in_order xs (λ k d low lt. subst (λ n. is_lt (slice_cmp nat_cmp (get_or (x ∷ xs) n d) (get_or xs k d)) ≡ false) (next k) (up (suc k) d (omega arith) (omega arith))),
)

pub sorted-unique : (texts sorted others : List (List ℕ)) → IsDistinct bytes_eq texts → IsSortedOf texts sorted → IsSortedOf texts others → sorted ≡ others
sorted-unique texts sorted others distinct a b =
    same_sorted sorted others (in_order sorted a.rising) (in_order others b.rising)
    (distinct-moved texts sorted a.moved distinct) (distinct-moved texts others b.moved distinct)
    (λ t. sym (list_any-IsPermutation (bytes_eq t) texts sorted a.moved) ∙ list_any-IsPermutation (bytes_eq t) texts others b.moved)

-- ---- a text that is looked for among sorted ones

apart : Less ≡ Equal → ⊥
apart e = true≢false (ap is_lt e)

module _ {K : Type 0} (f : K → List ℕ) (xs : List K) (t : List ℕ) where
  pub found : (i : ℕ) → i < length xs → ((d : K) → slice_cmp nat_cmp (f (get_or xs i d)) t ≡ Equal) → slice_get (map f xs) i ≡ Some t
  found i lt equal =
      let within : i < length (map f xs) = omega (arith, length-map xs f) in
      let first : slice_get (map f xs) i ≡ Some (get_or (map f xs) i t) = slice_get-get_or (map f xs) i t within in
      first ∙ ap Some (same xs i lt equal)
    where
      same : (ys : List K) (j : ℕ) → j < length ys → ((d : K) → slice_cmp nat_cmp (f (get_or ys j d)) t ≡ Equal) → get_or (map f ys) j t ≡ t
      same [] j lt e = absurd (omega arith)
      same (y ∷ ys) zero lt e = slice_cmp-IsAntisymmetric nat_cmp-IsAntisymmetric (f y) t (e y)
      same (y ∷ ys) (suc j) lt e = same ys j (omega arith) e

  still_rises : IsSorted (slice_cmp nat_cmp) (map f xs) → IsNonDecreasingBy (λ y. ordering_index (slice_cmp nat_cmp (f y) t)) xs
  still_rises up a b d le lt =
      let n : List ℕ → ℕ = λ u. ordering_index (slice_cmp nat_cmp u t) in
      let within : b < length (map f xs) = omega (arith, length-map xs f) in
      let rise : n (get_or (map f xs) a (f d)) ≤ n (get_or (map f xs) b (f d)) = searchable_from_sorted nat_list_cmp_total (λ u. u) (map f xs) t up a b (f d) le within in
      let at_a : get_or (map f xs) a (f d) ≡ f (get_or xs a d) = get_or-map f xs a d (f d) (omega arith) in
      let at_b : get_or (map f xs) b (f d) ≡ f (get_or xs b d) = get_or-map f xs b d (f d) lt in
      subst (λ u. n (f (get_or xs a d)) ≤ n u) at_b (subst (λ u. n u ≤ n (get_or (map f xs) b (f d))) at_a rise)

apart_too : Greater ≡ Equal → ⊥
apart_too e = true≢false (ap (λ o. is_lt (ordering_reverse o)) e)

pub not_missing : {K : Type 0} (f : K → List ℕ) (xs : List K) (t : List ℕ) → IsSorted (slice_cmp nat_cmp) (map f xs) → Contains (map f xs) t → (i : ℕ)
    → (IsNonDecreasingBy (λ y. ordering_index (slice_cmp nat_cmp (f y) t)) xs → IsPartitionPoint (λ y. slice_cmp nat_cmp (f y) t ≡ Less) (λ y. slice_cmp nat_cmp (f y) t ≡ Greater) xs i) → ⊥
not_missing f [] t up there i parts = let lt : there.0 < 0 = there.1 in absurd (omega arith)
not_missing f (y ∷ ys) t up there i parts =
    let k = there.0 in
    let lt : k < length (y ∷ ys) = omega (arith, there.1, length-map ys f) in
    let is : f (get_or (y ∷ ys) k y) ≡ t = sym (get_or-map f (y ∷ ys) k y t lt) ∙ there.2 in
    let equal : slice_cmp nat_cmp (f (get_or (y ∷ ys) k y)) t ≡ Equal = ap (λ u. slice_cmp nat_cmp u t) is ∙ tied_itself nat_list_cmp_total t in
    let p = parts (still_rises f (y ∷ ys) t up) in
    elim (dec_lt k i) [ yes below ↦ apart (sym (p.0 k y (omega arith) below) ∙ equal) | no above ↦ apart_too (sym (p.1 k y (omega (arith, above)) lt) ∙ equal) ]

-- ---- a place for each text

pub places_pushed : {A B : Type 0} (R : A → B → Type 0) (xs : List A) (ys : List B) (x : A) (y : B) → AllZip R xs ys → R x y → AllZip R (xs ++ x ∷ []) (ys ++ y ∷ [])
places_pushed R [] [] x y all one = (one, tt)
places_pushed R [] (b ∷ ys) x y all one = absurd all
places_pushed R (a ∷ xs) [] x y all one = absurd all
places_pushed R (a ∷ xs) (b ∷ ys) x y all one = (all.0, places_pushed R xs ys x y all.1 one)

pub sorted-map : {K : Type 0} (f : K → List ℕ) (xs : List K) → IsSortedBy (λ a b. is_lt (slice_cmp nat_cmp (f a) (f b))) xs → IsSorted (slice_cmp nat_cmp) (map f xs)
sorted-map f [] up k d low lt = absurd (omega arith)
sorted-map f (y ∷ ys) up k d low lt =
    let within : k + 1 < length (y ∷ ys) = omega (arith, lt, length-map ys f) in
    let first : get_or (map f (y ∷ ys)) k d ≡ f (get_or (y ∷ ys) k y) = get_or-map f (y ∷ ys) k y d (omega arith) in
    let second : get_or (map f (y ∷ ys)) (k + 1) d ≡ f (get_or (y ∷ ys) (k + 1) y) = get_or-map f (y ∷ ys) (k + 1) y d within in
    (λ i. is_lt (slice_cmp nat_cmp (second i) (first i))) ∙ up k y low within

-- one of the texts is among the sorted ones
pub sorted-contains : (texts sorted : List (List ℕ)) → IsSortedOf texts sorted → (t : List ℕ) (i : ℕ) → i < length texts → get_or texts i t ≡ t → Contains sorted t
sorted-contains texts sorted s t i lt is = Contains-permutation texts sorted t s.moved (i, lt, is)

-- the place of one of at most 2^24 texts fits 32 bits
pub place-fits : (texts sorted : List (List ℕ)) → IsSortedOf texts sorted → length texts ≤ 16777216 → (t : List ℕ) (place : ℕ) → slice_get sorted place ≡ Some t → Fits w32 place
place-fits texts sorted s few t place at = omega (arith, slice_get_within sorted place t at, length_permutation texts sorted s.moved, few)

-- a list and its next member, each mapped
pub take-one_more : {X : Type 0} (xs : List X) (i : ℕ) (x : X) → i < length xs → x ≡ get_or xs i x → take (i + 1) xs ≡ take i xs ++ x ∷ []
take-one_more xs i x lt is = take_more xs i x lt ∙ ap (λ z. take i xs ++ z ∷ []) (sym is)
