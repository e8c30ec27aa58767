-- Numbers of a fixed width, one behind the other.
use Rattle.std.proofs.Common.{◌≡◌, ◌∙◌, refl, ap, ℕ, zero, suc, ◌-◌, ◌*◌, ◌≤◌, List, ◌∷◌, take, drop, arith}
use Rattle.std.specs.Simd.{first_chunks}
use Rattle.std.proofs.lemmas.List.{take-take, drop-take}

-- only the bytes in front matter
pub fours_of_take : (n m : ℕ) (xs : List ℕ) → 4 * n ≤ m → first_chunks 4 n (take m xs) ≡ first_chunks 4 n xs
fours_of_take zero m xs le = refl
fours_of_take (suc n) m xs le =
    let j : ℕ = m - 4 in
    let front : take 4 (take m xs) ≡ take 4 xs = take-take 4 m xs (omega arith) in
    let back : drop 4 (take m xs) ≡ take j (drop 4 xs) = ap (λ k. drop 4 (take k xs)) (omega arith) ∙ drop-take 4 j xs in
    (λ i. front i ∷ first_chunks 4 n (back i)) ∙ ap (λ ys. take 4 xs ∷ ys) (fours_of_take n j (drop 4 xs) (omega arith))

pub eights_of_take : (n m : ℕ) (xs : List ℕ) → 8 * n ≤ m → first_chunks 8 n (take m xs) ≡ first_chunks 8 n xs
eights_of_take zero m xs le = refl
eights_of_take (suc n) m xs le =
    let j : ℕ = m - 8 in
    let front : take 8 (take m xs) ≡ take 8 xs = take-take 8 m xs (omega arith) in
    let back : drop 8 (take m xs) ≡ take j (drop 8 xs) = ap (λ k. drop 8 (take k xs)) (omega arith) ∙ drop-take 8 j xs in
    (λ i. front i ∷ first_chunks 8 n (back i)) ∙ ap (λ ys. take 8 xs ∷ ys) (eights_of_take n j (drop 8 xs) (omega arith))
