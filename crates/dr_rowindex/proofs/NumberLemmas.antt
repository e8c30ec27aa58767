-- Numbers that rise, and those that lie between two.
use Rattle.std.proofs.Common.{◌≡◌, ◌∙◌, sym, refl, ap, cond, ℕ, ℤ, pos, ◌≤ℤ◌, int_lt, ◌&&◌, Bool, true, false, Option, Some, List, get_or, arith}
use Rattle.std.specs.List.Sorted.{IsPartitionedBy}
use Rattle.std.specs.Ordering.{int_cmp, is_lt}
use Rattle.std.specs.declared.cmp.Ordering.TheVariants.{Less, Equal, Greater}
use Rattle.std.specs.Cmp.{IsStrictWeakOrder}
use Rattle.std.specs.List.Sorted.{IsSortedBy}
use Rattle.std.proofs.lemmas.Int.{ints}
use Rattle.std.proofs.lemmas.Cmp.{int_cmp_total}
use Rattle.std.proofs.lemmas.List.MinMax.{ranks_by}
use Rattle.std.proofs.lemmas.List.Sorted.{sorted_far}
use Rattle.dr_rowindex.specs.Orders.{NumbersRise, reached, unended, lies_between}

-- what lies before a number keeps so from a lesser one on
lesser : (a b n : ℤ) → a ≤ℤ b → int_lt b n ≡ true → int_lt a n ≡ true
lesser a b n le lt = grind (arith, ints)

pub numbers-parted : (numbers : List ℤ) (rows : List ℕ) (number : ℤ) → NumbersRise numbers rows → IsPartitionedBy (λ r. int_lt (get_or numbers r (pos 0)) number) rows
numbers-parted numbers rows number rises i j r le lt h = lesser (get_or numbers (get_or rows i r) (pos 0)) (get_or numbers (get_or rows j r) (pos 0)) number (rises i j r le lt) h

pub numbers_rank : (numbers : List ℤ) → IsStrictWeakOrder (λ (a b : ℕ). is_lt (int_cmp (get_or numbers a (pos 0)) (get_or numbers b (pos 0))))
numbers_rank numbers = ranks_by int_cmp_total (λ (r : ℕ). get_or numbers r (pos 0))

not_less : (a b : ℤ) → is_lt (int_cmp b a) ≡ false → a ≤ℤ b
not_less a b h = at (int_lt b a) refl
  where
    at : (x : Bool) → int_lt b a ≡ x → a ≤ℤ b
    at true is = absurd (cc (sym (ap (λ x. is_lt (cond x Less (cond (int_lt a b) Greater Equal))) is) ∙ h))
    at false is = grind (arith, ints)

pub numbers-rise : (numbers : List ℤ) (rows : List ℕ) → IsSortedBy (λ (a b : ℕ). is_lt (int_cmp (get_or numbers a (pos 0)) (get_or numbers b (pos 0)))) rows → NumbersRise numbers rows
numbers-rise numbers rows up i j r le lt =
    not_less (get_or numbers (get_or rows i r) (pos 0)) (get_or numbers (get_or rows j r) (pos 0))
    (sorted_far (λ (a b : ℕ). is_lt (int_cmp (get_or numbers a (pos 0)) (get_or numbers b (pos 0)))) (numbers_rank numbers) rows up i j r le lt)

-- ---- what lies between two

pub reached-false : (from n : ℤ) → int_lt n from ≡ true → reached (Some from) n ≡ false
reached-false from n h = grind (arith, ints)

pub reached-true : (from n : ℤ) → int_lt n from ≡ false → reached (Some from) n ≡ true
reached-true from n h = grind (arith, ints)

pub not-reached : (from to : Option ℤ) (n : ℤ) → reached from n ≡ false → lies_between from to n ≡ false
not-reached from to n h = ap (λ b. b && unended to n) h

pub inside : (from to : Option ℤ) (n : ℤ) → reached from n ≡ true → unended to n ≡ true → lies_between from to n ≡ true
inside from to n h g = ap (λ b. b && unended to n) h ∙ g

pub ended : (from to : Option ℤ) (n : ℤ) → unended to n ≡ false → lies_between from to n ≡ false
ended from to n h = ap (λ b. reached from n && b) h ∙ never (reached from n)
  where
    never : (b : Bool) → (b && false) ≡ false
    never true = refl
    never false = refl
