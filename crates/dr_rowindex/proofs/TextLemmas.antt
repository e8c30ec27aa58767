-- Texts that rise, and those that a range holds.
use Rattle.std.proofs.Common.{◌≡◌, ◌∙◌, sym, refl, ap, ℕ, not, ◌&&◌, Bool, true, false, List, [], get_or}
use Rattle.std.specs.List.Sorted.{IsPartitionedBy, IsSortedBy}
use Rattle.std.specs.Ordering.{nat_cmp, is_lt}
use Rattle.std.specs.Cmp.{IsStrictWeakOrder}
use Rattle.std.specs.Cmp.Lexicographic.{slice_cmp, nat_list_cmp_total}
use Rattle.std.proofs.lemmas.List.MinMax.{ranks_by}
use Rattle.std.proofs.lemmas.List.Sorted.{sorted_far}
use Rattle.dr_predicate.specs.declared.bounds.Bounds.{Bounds}
use Rattle.dr_predicate.specs.Ranges.{begun, unended}
use Rattle.dr_predicate.specs.Within.{lies_within}
use Rattle.dr_rowindex.specs.Orders.{TextsRise}
use Rattle.dr_rowindex.proofs.OrderLemmas.{begun-later, unended-earlier}

-- ---- in order

pub texts_rank : (texts : List (List ℕ)) → IsStrictWeakOrder (λ (a b : ℕ). is_lt (slice_cmp nat_cmp (get_or texts a []) (get_or texts b [])))
texts_rank texts = ranks_by nat_list_cmp_total (λ (r : ℕ). get_or texts r [])

pub texts-rise : (texts : List (List ℕ)) (rows : List ℕ) → IsSortedBy (λ (a b : ℕ). is_lt (slice_cmp nat_cmp (get_or texts a []) (get_or texts b []))) rows → TextsRise texts rows
texts-rise texts rows up i j r le lt = sorted_far (λ (a b : ℕ). is_lt (slice_cmp nat_cmp (get_or texts a []) (get_or texts b []))) (texts_rank texts) rows up i j r le lt

-- ---- where a range begins and ends

module _ (texts : List (List ℕ)) (rows : List ℕ) (rises : TextsRise texts rows) (b : Bounds) where
  pub not-begun-parted : IsPartitionedBy (λ r. not (begun (get_or texts r []) b)) rows
  not-begun-parted i j r le lt h = at (begun (get_or texts (get_or rows i r) []) b) refl
    where
      at : (t : Bool) → begun (get_or texts (get_or rows i r) []) b ≡ t → not (begun (get_or texts (get_or rows i r) []) b) ≡ true
      at true is = absurd (cc (sym (ap not (begun-later (get_or texts (get_or rows i r) []) (get_or texts (get_or rows j r) []) b (rises i j r le lt) is)) ∙ h))
      at false is = ap not is

  pub unended-parted : IsPartitionedBy (λ r. unended (get_or texts r []) b) rows
  unended-parted i j r le lt h = unended-earlier (get_or texts (get_or rows i r) []) (get_or texts (get_or rows j r) []) b (rises i j r le lt) h

pub turned : (x y : Bool) → not x ≡ y → x ≡ not y
turned true y h = ap not h
turned false y h = ap not h

-- ---- what a range holds

pub not-begun : (text : List ℕ) (b : Bounds) → begun text b ≡ false → lies_within b text ≡ false
not-begun text b h = ap (λ x. x && unended text b) h

pub held : (text : List ℕ) (b : Bounds) → begun text b ≡ true → unended text b ≡ true → lies_within b text ≡ true
held text b h g = ap (λ x. x && unended text b) h ∙ g

pub ended : (text : List ℕ) (b : Bounds) → unended text b ≡ false → lies_within b text ≡ false
ended text b h = ap (λ x. begun text b && x) h ∙ never (begun text b)
  where
    never : (x : Bool) → (x && false) ≡ false
    never true = refl
    never false = refl
