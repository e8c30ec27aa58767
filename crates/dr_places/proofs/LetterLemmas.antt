-- Characters, and their digits.
use Rattle.std.proofs.Common.{inl, inr, ◌⊎◌, ◌≡◌, ◌≢◌, ◌∙◌, sym, refl, ap, ap₂, subst, ℕ, zero, suc, ◌/◌, ◌%◌, ◌<◌, ◌≤◌, ◌==◌, ◌&&◌, Bool, true, false, List, [], ◌∷◌, length, get_or, eqb, Result, Ok, Err, IfOk, Vec, Global, arith}
use Rattle.std.specs.Str.{chars, IsUtf8}
use Rattle.std.proofs.lemmas.Bool.{and_parts, eqb-true}
use Rattle.std.proofs.lemmas.Bool.Decides.{nat_tests}
use Rattle.std.proofs.lemmas.Str.{scalars-chars}
use Rattle.std.proofs.Math.Utf8.{scalar, scalars, scalar_cases}
use Rattle.dr_places.specs.Digits.{AreCharacters}

below : (c : ℕ) → (c < 55296) ⊎ ((57344 ≤ c) × (c < 1114112)) → c < 2097152
below c (inl low) = omega (arith, low)
below c (inr high) = omega (arith, high.1)

scalars-below : (cs : List ℕ) → scalars cs ≡ true → AreCharacters cs
scalars-below [] is = λ k lt. absurd (omega (arith, lt))
scalars-below (c ∷ cs) is = at (and_parts (scalar c) (scalars cs) is).0 (scalars-below cs (and_parts (scalar c) (scalars cs) is).1)
  where
    at : scalar c ≡ true → AreCharacters cs → (k : ℕ) → k < suc (length cs) → get_or (c ∷ cs) k 0 < 2097152
    at one more zero lt = below c (scalar_cases c one)
    at one more (suc k) lt = more k (omega (arith, lt))

pub scalar-below : (c : ℕ) → scalar c ≡ true → c < 2097152
scalar-below c is = below c (scalar_cases c is)

pub characters : (bs cs : List ℕ) → IsUtf8 bs → cs ≡ chars bs → AreCharacters cs
characters bs cs utf8 are = subst AreCharacters (sym are) (scalars-below (chars bs) (scalars-chars bs utf8))

pub characters-of : {E : Type 0} (bs : List ℕ) (r : Result (Vec ℕ Global) E) → IsUtf8 bs → IfOk r (λ v. v.items ≡ chars bs) → IfOk r (λ v. AreCharacters v.items)
characters-of bs (Ok v) utf8 are = characters bs v.items utf8 are
characters-of bs (Err e) utf8 are = tt

-- two characters with the same digits are the same
same-digits : (a p : ℕ) → a < 2097152 → p < 2097152 → a / 1 % 128 ≡ p / 1 % 128 → a / 128 % 32 ≡ p / 128 % 32 → a / 4096 % 32 ≡ p / 4096 % 32 → a / 131072 % 16 ≡ p / 131072 % 16 → a ≡ p
same-digits a p x y d e f g = omega (arith, x, y, d, e, f, g)

module _ (a p : ℕ) (x : a < 2097152) (y : p < 2097152) where
  differs : (d m : ℕ) → eqb (a / d % m) (p / d % m) ≡ false → (a == p) ≡ false
  differs d m is =
      let apart : a ≢ p = λ one. let same : eqb (p / d % m) (p / d % m) ≡ false = ap (λ q. eqb (q / d % m) (p / d % m)) (sym one) ∙ is in grind (arith, nat_tests) in
      grind (arith, nat_tests)

  by-digits : (t b1 b2 b3 b4 : Bool) → eqb (a / 1 % 128) (p / 1 % 128) ≡ b1 → eqb (a / 128 % 32) (p / 128 % 32) ≡ b2 → eqb (a / 4096 % 32) (p / 4096 % 32) ≡ b3 → eqb (a / 131072 % 16) (p / 131072 % 16) ≡ b4
      → ((((t && b1) && b2) && b3) && b4) ≡ (t && (a == p))
  by-digits t false b2 b3 b4 d e f g = let other = differs 1 128 d in grind arith
  by-digits t true false b3 b4 d e f g = let other = differs 128 32 e in grind arith
  by-digits t true true false b4 d e f g = let other = differs 4096 32 f in grind arith
  by-digits t true true true false d e f g = let other = differs 131072 16 g in grind arith
  by-digits t true true true true d e f g =
      let one = same-digits a p x y (eqb-true _ _ d) (eqb-true _ _ e) (eqb-true _ _ f) (eqb-true _ _ g) in
      let same : (a == p) ≡ true = grind (arith, nat_tests) in grind arith

one-digit : (a p d m divisor count : ℕ) (t t' : Bool) → divisor ≡ d → count ≡ m → t' ≡ (t && eqb (a / divisor % count) (p / divisor % count)) → t' ≡ (t && eqb (a / d % m) (p / d % m))
one-digit a p d m divisor count t t' dis cis told = told ∙ ap₂ (λ x y. t && eqb (a / x % y) (p / x % y)) dis cis

pub letter-kept : (a p d1 m1 d2 m2 d3 m3 d4 m4 : ℕ) (t t1 t2 t3 t4 : Bool) → a < 2097152 → p < 2097152
    → d1 ≡ 1 → m1 ≡ 128 → d2 ≡ 128 → m2 ≡ 32 → d3 ≡ 4096 → m3 ≡ 32 → d4 ≡ 131072 → m4 ≡ 16
    → t1 ≡ (t && eqb (a / d1 % m1) (p / d1 % m1)) → t2 ≡ (t1 && eqb (a / d2 % m2) (p / d2 % m2)) → t3 ≡ (t2 && eqb (a / d3 % m3) (p / d3 % m3)) → t4 ≡ (t3 && eqb (a / d4 % m4) (p / d4 % m4))
    → t4 ≡ (t && (a == p))
letter-kept a p d1 m1 d2 m2 d3 m3 d4 m4 t t1 t2 t3 t4 x y c1 n1 c2 n2 c3 n3 c4 n4 e1 e2 e3 e4 =
    one-digit a p 131072 16 d4 m4 t3 t4 c4 n4 e4
    ∙ ap (λ b. b && eqb (a / 131072 % 16) (p / 131072 % 16)) (one-digit a p 4096 32 d3 m3 t2 t3 c3 n3 e3
    ∙ ap (λ b. b && eqb (a / 4096 % 32) (p / 4096 % 32)) (one-digit a p 128 32 d2 m2 t1 t2 c2 n2 e2
    ∙ ap (λ b. b && eqb (a / 128 % 32) (p / 128 % 32)) (one-digit a p 1 128 d1 m1 t t1 c1 n1 e1)))
    ∙ by-digits a p x y t (eqb (a / 1 % 128) (p / 1 % 128)) (eqb (a / 128 % 32) (p / 128 % 32)) (eqb (a / 4096 % 32) (p / 4096 % 32)) (eqb (a / 131072 % 16) (p / 131072 % 16)) refl refl refl refl
