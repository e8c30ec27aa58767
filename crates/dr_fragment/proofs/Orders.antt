-- How two lists compare behind as many items as the shorter one has.
use Rattle.std.proofs.Common.{◌≡◌, refl, ℕ, zero, suc, ◌<◌, min, List, [], ◌∷◌, length, drop, arith}
use Rattle.std.specs.declared.cmp.Ordering.{Ordering}
use Rattle.std.specs.declared.cmp.Ordering.TheVariants.{Less, Equal, Greater}
use Rattle.std.specs.Ordering.{nat_cmp, MatchOrdering}
use Rattle.std.specs.Cmp.{nat_cmp_is}
use Rattle.std.specs.Cmp.Lexicographic.{slice_cmp}

one_more : (n m : ℕ) (o : Ordering) → MatchOrdering o (n < m) (n ≡ m) (m < n) → MatchOrdering o (suc n < suc m) (suc n ≡ suc m) (suc m < suc n)
one_more n m Less h = omega arith
one_more n m Equal h = omega arith
one_more n m Greater h = omega arith

longer : {A : Type 0} (compare : A → A → Ordering) (xs ys : List A) (d : ℕ) → d ≡ min (length xs) (length ys)
    → MatchOrdering (slice_cmp compare (drop d xs) (drop d ys)) (length xs < length ys) (length xs ≡ length ys) (length ys < length xs)
longer compare [] [] zero e = refl
longer compare [] (y ∷ ys) zero e = omega arith
longer compare (x ∷ xs) [] zero e = omega arith
longer compare (x ∷ xs) (y ∷ ys) zero e = absurd (omega arith)
longer compare [] [] (suc d) e = absurd (omega arith)
longer compare [] (y ∷ ys) (suc d) e = absurd (omega arith)
longer compare (x ∷ xs) [] (suc d) e = absurd (omega arith)
longer compare (x ∷ xs) (y ∷ ys) (suc d) e = one_more (length xs) (length ys) (slice_cmp compare (drop d xs) (drop d ys)) (longer compare xs ys d (omega arith))

pub longer_follows : {A : Type 0} (compare : A → A → Ordering) (xs ys : List A) (d : ℕ) → d ≡ min (length xs) (length ys) → slice_cmp compare (drop d xs) (drop d ys) ≡ nat_cmp (length xs) (length ys)
longer_follows compare xs ys d e = nat_cmp_is (length xs) (length ys) (slice_cmp compare (drop d xs) (drop d ys)) (longer compare xs ys d e)
