-- The columns of rows.
use Rattle.std.proofs.Common.{◌≡◌, ◌∙◌, sym, refl, ap, subst, ℕ, suc, ◌+◌, ◌<◌, Bool, true, false, ◌||◌, ◌&&◌, List, [], ◌∷◌, ◌++◌, length, get_or, take, bytes_eq, arith, true≢false}
use Rattle.std.specs.List.{list_any, AllByRecursion, IsDistinct}
use Rattle.std.specs.List.Sorted.{IsSorted, IsPermutation}
use Rattle.std.specs.declared.cmp.Ordering.TheVariants.{Less, Equal, Greater}
use Rattle.std.specs.Ordering.{nat_cmp, is_lt, ordering_reverse}
use Rattle.std.specs.Cmp.Lexicographic.{slice_cmp, nat_list_cmp_total, bytes_decides}
use Rattle.std.specs.FinMap.{nat_cmp-IsAntisymmetric, slice_cmp-IsAntisymmetric}
use Rattle.std.proofs.lemmas.Bool.{or_parts}
use Rattle.std.proofs.lemmas.List.{map_more}
use Rattle.std.proofs.lemmas.List.Sorted.{list_any-IsPermutation}
use Rattle.dr_dict.proofs.SortedTexts.{distinct-moved}
use Rattle.dr_base.specs.declared.row.Row.{Row}
use Rattle.dr_image.specs.Sealed.{each_next}
use Rattle.dr_image.specs.Opening.{is_below}
use Rattle.dr_image.specs.Image.{dictionary_of, values_of}
use Rattle.dr_image.proofs.DictionaryLemmas.{dictionary_is, same_back}
use Rattle.dr_segment.specs.Columns.{IsDistinctOf}
use Rattle.dr_base.proofs.Truths.{or_true, or_false}

-- ---- distinct texts

all_push : (P : List ℕ → Type 0) (xs : List (List ℕ)) (x : List ℕ) → AllByRecursion P xs → P x → AllByRecursion P (xs ++ x ∷ [])
all_push P [] x all here = (here, tt)
all_push P (y ∷ ys) x all here = (all.0, all_push P ys x all.1 here)

distinct_push : (xs : List (List ℕ)) (x : List ℕ) → IsDistinct bytes_eq xs → list_any (bytes_eq x) xs ≡ false → IsDistinct bytes_eq (xs ++ x ∷ [])
unfolding IsDistinct
distinct_push [] x d fresh = (tt, tt)
distinct_push (y ∷ ys) x d fresh =
    let p = or_parts _ _ fresh in
    (all_push (λ z. bytes_eq y z ≡ false) ys x d.0 (same_back x y p.0), distinct_push ys x d.1 p.1)

any_push : (t : List ℕ) (xs : List (List ℕ)) (x : List ℕ) → list_any (bytes_eq t) (xs ++ x ∷ []) ≡ (list_any (bytes_eq t) xs || bytes_eq t x)
any_push t [] x = last (bytes_eq t x)
  where
    last : (b : Bool) → (b || false) ≡ b
    last true = refl
    last false = refl
any_push t (y ∷ ys) x = ap (λ b. bytes_eq t y || b) (any_push t ys x) ∙ regroup (bytes_eq t y) (list_any (bytes_eq t) ys) (bytes_eq t x)
  where
    regroup : (a b c : Bool) → (a || (b || c)) ≡ ((a || b) || c)
    regroup true b c = refl
    regroup false b c = refl

pub distinct_none : IsDistinctOf [] []
unfolding IsDistinct
distinct_none = record { distinct = tt; alike = λ t. refl }

-- a new text
pub distinct_more : (texts values : List (List ℕ)) (x : List ℕ) → IsDistinctOf texts values → list_any (bytes_eq x) texts ≡ false → IsDistinctOf (texts ++ x ∷ []) (values ++ x ∷ [])
distinct_more texts values x d fresh = record {
  distinct = distinct_push texts x d.distinct fresh;
  alike = λ t. any_push t texts x ∙ ap (λ b. b || bytes_eq t x) (d.alike t) ∙ sym (any_push t values x);
}

-- one that was there
pub distinct_same : (texts values : List (List ℕ)) (x : List ℕ) → IsDistinctOf texts values → list_any (bytes_eq x) texts ≡ true → IsDistinctOf texts (values ++ x ∷ [])
distinct_same texts values x d there = record {
  distinct = d.distinct;
  alike = λ t. same t ∙ sym (any_push t values x);
}
  where
    same : (t : List ℕ) → list_any (bytes_eq t) texts ≡ (list_any (bytes_eq t) values || bytes_eq t x)
    same t =
        elim (bytes_eq t x) as (λ b. bytes_eq t x ≡ b → list_any (bytes_eq t) texts ≡ (list_any (bytes_eq t) values || b)) [
          | true ↦ λ e. ap (λ u. list_any (bytes_eq u) texts) ((bytes_decides t x).0 e) ∙ there ∙ sym (or_true (list_any (bytes_eq t) values))
          | false ↦ λ e. d.alike t ∙ sym (or_false (list_any (bytes_eq t) values))
        ]
        refl

-- ---- distinct texts that are sorted ascend

below_from : (a b : List ℕ) → is_lt (slice_cmp nat_cmp b a) ≡ false → bytes_eq a b ≡ false → is_below a b ≡ true
below_from a b up differ =
    elim (slice_cmp nat_cmp a b) as (λ o. slice_cmp nat_cmp a b ≡ o → is_below a b ≡ true) [
      | Less ↦ λ t. ap is_lt t
      | Equal ↦ λ t. absurd (true≢false (sym ((bytes_decides a b).1 (slice_cmp-IsAntisymmetric nat_cmp-IsAntisymmetric a b t)) ∙ differ))
      | Greater ↦ λ t. absurd (true≢false (sym (ap is_lt (nat_list_cmp_total.antisymm b a ∙ ap ordering_reverse t)) ∙ up))
    ]
    refl

shift : (k : ℕ) → suc k + 1 ≡ suc (k + 1)
shift k = omega arith

pub ascends : (xs : List (List ℕ)) → IsSorted (slice_cmp nat_cmp) xs → IsDistinct bytes_eq xs → each_next is_below xs ≡ true
unfolding each_next IsDistinct
ascends [] up d = refl
ascends (x ∷ []) up d = refl
ascends (x ∷ y ∷ ys) up d =
    let rest : IsSorted (slice_cmp nat_cmp) (y ∷ ys) = λ k e low lt. subst (λ (n : ℕ). is_lt (slice_cmp nat_cmp (get_or (x ∷ y ∷ ys) n e) (get_or (y ∷ ys) k e)) ≡ false) (shift k) (up (suc k) e (omega arith) (omega arith)) in
    let here : is_below x y ≡ true = below_from x y (up 0 x (omega arith) (omega arith)) d.0.0 in
    ap (λ b. b && each_next is_below (y ∷ ys)) here ∙ ascends (y ∷ ys) rest d.1

pub sorted_dictionary : (texts values sorted : List (List ℕ)) → IsDistinctOf texts values → IsPermutation texts sorted → IsSorted (slice_cmp nat_cmp) sorted → sorted ≡ dictionary_of values
sorted_dictionary texts values sorted d moved up =
    dictionary_is sorted values (ascends sorted up (distinct-moved texts sorted moved d.distinct)) (λ t. sym (list_any-IsPermutation (bytes_eq t) texts sorted moved) ∙ d.alike t)

-- ---- one more row

pub values_more : (d i : ℕ) (rows : List Row) (r : Row) → i < length rows → r ≡ get_or rows i r → values_of d (take (i + 1) rows) ≡ values_of d (take i rows) ++ get_or r.key.dims d [] ∷ []
values_more d i rows r lt is = map_more (λ (q : Row). get_or q.key.dims d []) rows i r lt ∙ ap (λ (q : Row). values_of d (take i rows) ++ get_or q.key.dims d [] ∷ []) (sym is)
