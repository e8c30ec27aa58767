-- An entry behind a list.
use Rattle.std.proofs.Common.{◌≡◌, ap, ℕ, zero, suc, ◌+◌, List, [], ◌∷◌, ◌++◌, length, arith, refl}
use Rattle.std.proofs.Math.ListN.{set}

set-at : (xs ys : List ℕ) (i j v : ℕ) → j ≡ length xs + i → set (xs ++ ys) j v ≡ xs ++ set ys i v
set-at [] ys i j v h = let k : j ≡ i = omega arith in rw k refl
set-at (x ∷ xs) ys i zero v h = absurd (omega arith)
set-at (x ∷ xs) ys i (suc j) v h = let k : j ≡ length xs + i = omega arith in ap (λ zs. x ∷ zs) (set-at xs ys i j v k)

pub set-behind : (xs ys : List ℕ) (n i v : ℕ) → n ≡ length xs → set (xs ++ ys) (n + i) v ≡ xs ++ set ys i v
set-behind xs ys n i v h = set-at xs ys i (n + i) v (ap (λ m. m + i) h)
