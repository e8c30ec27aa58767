-- The sets of the places at which a digit of the characters is this or that.
use Rattle.std.proofs.Common.{inl, inr, ◌⊎◌, ◌≡◌, ◌≢◌, ◌∙◌, sym, refl, ap, subst, ℕ, zero, suc, ◌+◌, ◌/◌, ◌%◌, ◌<◌, ◌≤◌, ◌&&◌, ◌-◌, drop, if◌then◌else◌, Bool, true, false, List, [], length, get_or, set, replicate, eqb, nat_lt, arith}
use Rattle.std.proofs.lemmas.Bool.{cases_eq}
use Rattle.std.proofs.lemmas.Bool.Decides.{nat_tests}
use Rattle.std.proofs.lemmas.Nat.{div_below, mod_below, div-add-mod'}
use Rattle.std.proofs.lemmas.List.{length-set, get_or-drop, get_or-set_same, get_or-set_other, get_or-replicate, length-replicate}
use Rattle.dr_places.specs.Places.{has_bit, bit_from, truth_in, IsKept}
use Rattle.dr_places.specs.Digits.{HasDigit, AreDigits, AreMarked}
use Rattle.dr_bits.proofs.BitLemmas.{bit-zero}

-- ---- the places with a digit are kept

pub digit-within : (cs : List ℕ) (d m x : ℕ) (sets : List (List ℕ)) → AreDigits cs d m sets → 0 < length sets → x < m → x < length sets
digit-within cs d m x sets are some lt = at are.all
  where
    at : (length sets ≡ m) ⊎ ((length sets ≡ 0) × ((k : ℕ) → k < length cs → get_or cs k 0 < d)) → x < length sets
    at (inl all) = omega (arith, all, lt)
    at (inr none) = absurd (omega (arith, none.0, some))

-- a bit of words, counted from a place in the first of them on
pub bits-from : (places : List ℕ) (b k : ℕ) → b < 64 → bit_from (get_or places (k / 64) 0) (get_or places (k / 64 + 1) 0) b (k % 64) ≡ truth_in places (b + k)
bits-from places b k lt = at (nat_lt (k % 64 + b) 64) refl
  where
    at : (t : Bool) → nat_lt (k % 64 + b) 64 ≡ t
        → (if t then has_bit (get_or places (k / 64) 0) (k % 64 + b) else has_bit (get_or places (k / 64 + 1) 0) (k % 64 + b - 64)) ≡ truth_in places (b + k)
    at true is =
        let less : k % 64 + b < 64 = grind (arith, nat_tests) in
        let word : k / 64 ≡ (b + k) / 64 = omega (arith, less) in
        let bit : k % 64 + b ≡ (b + k) % 64 = omega (arith, less) in
        ap (λ i. has_bit (get_or places i 0) (k % 64 + b)) word ∙ ap (has_bit (get_or places ((b + k) / 64) 0)) bit
    at false is =
        let more : 64 ≤ k % 64 + b = grind (arith, nat_tests) in
        let word : k / 64 + 1 ≡ (b + k) / 64 = omega (arith, more, lt) in
        let bit : k % 64 + b - 64 ≡ (b + k) % 64 = omega (arith, more, lt) in
        ap (λ i. has_bit (get_or places i 0) (k % 64 + b - 64)) word ∙ ap (has_bit (get_or places ((b + k) / 64) 0)) bit

-- the same of a set, counted from a place on
from-place : (places : List ℕ) (lo k : ℕ) → bit_from (get_or (drop (lo / 64) places) (k / 64) 0) (get_or (drop (lo / 64) places) (k / 64 + 1) 0) (lo % 64) (k % 64) ≡ truth_in places (lo + k)
from-place places lo k =
    let i = lo % 64 + k in
    let word : lo / 64 + i / 64 ≡ (lo + k) / 64 = omega arith in
    let bit : i % 64 ≡ (lo + k) % 64 = omega arith in
    bits-from (drop (lo / 64) places) (lo % 64) k (mod_below lo 64 (omega arith))
    ∙ ap (λ w. has_bit w (i % 64)) (get_or-drop (lo / 64) places (i / 64) 0 ∙ ap (λ n. get_or places n 0) word) ∙ ap (has_bit (get_or places ((lo + k) / 64) 0)) bit

pub kept : (cs words places after : List ℕ) (lo from end d m x : ℕ) → HasDigit cs d m x places
    → ((k : ℕ) → from ≤ k → k < end → IsKept (get_or (drop (lo / 64) places) k 0) (get_or (drop (lo / 64) places) (k + 1) 0) (lo % 64) (get_or words k 0) (get_or after k 0))
    → (k : ℕ) → from ≤ k / 64 → k / 64 < end → lo + k < length cs → truth_in after k ≡ (truth_in words k && eqb (get_or cs (lo + k) 0 / d % m) x)
kept cs words places after lo from end d m x has each k le lt within =
    each (k / 64) le lt (k % 64) (mod_below k 64 (omega arith)) ∙ ap (λ b. truth_in words k && b) (from-place places lo k ∙ has.told (lo + k) within)

-- ---- a digit that is 0 in every character

zero-digit : (n d m : ℕ) → n < d → 0 < m → n / d % m ≡ 0
zero-digit n d m lt some =
    let none : n / d ≡ 0 = omega (arith, div_below n d 1 (omega (arith, lt)) (omega (arith, lt))) in
    ap (λ x. x % m) none ∙ omega (arith, div-add-mod' 0 m)

pub no-digit : (cs : List ℕ) (d m : ℕ) (sets : List (List ℕ)) → AreDigits cs d m sets → length sets ≡ 0 → 0 < m → (k : ℕ) → k < length cs → get_or cs k 0 / d % m ≡ 0
no-digit cs d m sets are none some k lt = at are.all
  where
    at : (length sets ≡ m) ⊎ ((length sets ≡ 0) × ((k : ℕ) → k < length cs → get_or cs k 0 < d)) → get_or cs k 0 / d % m ≡ 0
    at (inl all) = absurd (omega (arith, all, none, some))
    at (inr below) = zero-digit (get_or cs k 0) d m (below.1 k lt) some

same-digit : (a b : ℕ) (t : Bool) → a ≡ 0 → b ≡ 0 → t ≡ (t && eqb a b)
same-digit a b t x y = grind (arith, nat_tests)

other-digit : (a b : ℕ) (t : Bool) → a ≡ 0 → b ≢ 0 → false ≡ (t && eqb a b)
other-digit a b t x y = grind (arith, nat_tests)

module _ (cs words : List ℕ) (lo d m p : ℕ) (sets : List (List ℕ)) (are : AreDigits cs d m sets) (none : length sets ≡ 0) (some : 0 < m) where
  pub all-kept : p / d % m ≡ 0 → (k : ℕ) → lo + k < length cs → truth_in words k ≡ (truth_in words k && eqb (get_or cs (lo + k) 0 / d % m) (p / d % m))
  all-kept is k lt = same-digit (get_or cs (lo + k) 0 / d % m) (p / d % m) (truth_in words k) (no-digit cs d m sets are none some (lo + k) lt) is

  pub none-kept : (after : List ℕ) (from end : ℕ) → p / d % m ≢ 0 → ((k : ℕ) → from ≤ k → k < end → get_or after k 0 ≡ 0)
      → (k : ℕ) → from ≤ k / 64 → k / 64 < end → lo + k < length cs → truth_in after k ≡ (truth_in words k && eqb (get_or cs (lo + k) 0 / d % m) (p / d % m))
  none-kept after from end isnt each k le lt within =
      ap (λ w. has_bit w (k % 64)) (each (k / 64) le lt) ∙ bit-zero (k % 64)
      ∙ other-digit (get_or cs (lo + k) 0 / d % m) (p / d % m) (truth_in words k) (no-digit cs d m sets are none some (lo + k) within) isnt

-- ---- one place more

lt-same : (j k : ℕ) → j ≢ k → nat_lt j k ≡ nat_lt j (k + 1)
lt-same j k apart = grind (arith, nat_tests)

module _ (cs : List ℕ) (k d m x : ℕ) (sets : List (List ℕ)) (marked : List ℕ) (lt : k < length cs) (digit : x ≡ get_or cs k 0 / d % m) (within : x < m)
    (are : AreMarked cs k d m sets) (long : length marked ≡ length (get_or sets x [])) (here : truth_in marked k ≡ true)
    (others : (j : ℕ) → j ≢ k → truth_in marked j ≡ truth_in (get_or sets x []) j) where
  abbrev pub after : List (List ℕ)
  after = set sets x marked

  there : x < length sets
  there = omega (arith, within, are.all)

  long-after : (y : ℕ) → y < m → length (get_or after y []) ≡ length cs / 64 + 2
  long-after y less = elim (cases_eq y x) [
    | inl same ↦ ap length (ap (λ z. get_or after z []) same ∙ get_or-set_same sets x marked [] there) ∙ long ∙ are.long x within
    | inr apart ↦ ap length (get_or-set_other sets x y marked [] apart) ∙ are.long y less
  ]

  told-here : (y : ℕ) → y ≡ x → true ≡ (nat_lt k (k + 1) && eqb (get_or cs k 0 / d % m) y)
  told-here y same = let is : get_or cs k 0 / d % m ≡ y = sym digit ∙ sym same in grind (arith, nat_tests)

  told-same : (j : ℕ) → truth_in marked j ≡ (nat_lt j (k + 1) && eqb (get_or cs j 0 / d % m) x)
  told-same j = elim (cases_eq j k) [
    | inl same ↦ subst (λ i. truth_in marked i ≡ (nat_lt i (k + 1) && eqb (get_or cs i 0 / d % m) x)) (sym same) (here ∙ told-here x refl)
    | inr apart ↦ others j apart ∙ are.told x within j ∙ ap (λ b. b && eqb (get_or cs j 0 / d % m) x) (lt-same j k apart)
  ]

  none-here : (y : ℕ) → y ≢ x → (b : Bool) → (b && eqb (get_or cs k 0 / d % m) y) ≡ false
  none-here y apart b = let is : get_or cs k 0 / d % m ≢ y = λ e. apart (sym e ∙ sym digit) in grind (arith, nat_tests)

  told-other : (y : ℕ) → y < m → y ≢ x → (j : ℕ) → truth_in (get_or sets y []) j ≡ (nat_lt j (k + 1) && eqb (get_or cs j 0 / d % m) y)
  told-other y less apart j = elim (cases_eq j k) [
    | inl same ↦ subst (λ i. truth_in (get_or sets y []) i ≡ (nat_lt i (k + 1) && eqb (get_or cs i 0 / d % m) y)) (sym same)
        (are.told y less k ∙ none-here y apart (nat_lt k k) ∙ sym (none-here y apart (nat_lt k (k + 1))))
    | inr other ↦ are.told y less j ∙ ap (λ b. b && eqb (get_or cs j 0 / d % m) y) (lt-same j k other)
  ]

  told-after : (y : ℕ) → y < m → (j : ℕ) → truth_in (get_or after y []) j ≡ (nat_lt j (k + 1) && eqb (get_or cs j 0 / d % m) y)
  told-after y less j = elim (cases_eq y x) [
    | inl same ↦ ap (λ l. truth_in l j) (ap (λ z. get_or after z []) same ∙ get_or-set_same sets x marked [] there) ∙ told-same j
        ∙ ap (λ z. nat_lt j (k + 1) && eqb (get_or cs j 0 / d % m) z) (sym same)
    | inr apart ↦ ap (λ l. truth_in l j) (get_or-set_other sets x y marked [] apart) ∙ told-other y less apart j
  ]

  pub marked-more : AreMarked cs (k + 1) d m after
  marked-more = record { all = length-set sets x marked ∙ are.all; long = long-after; told = told-after }

-- ---- before the first place and behind the last

pub marked-none : (cs : List ℕ) (d m : ℕ) (sets : List (List ℕ)) → sets ≡ replicate m (replicate (length cs / 64 + 2) 0) → AreMarked cs 0 d m sets
marked-none cs d m sets are = record {
  all = ap length are ∙ length-replicate m (replicate (length cs / 64 + 2) 0);
  long = λ x lt. ap length (empty x lt) ∙ length-replicate (length cs / 64 + 2) 0;
  told = λ x lt k. ap (λ l. truth_in l k) (empty x lt) ∙ ap (λ w. has_bit w (k % 64)) (zeros (length cs / 64 + 2) (k / 64) 0) ∙ bit-zero (k % 64) ∙ behind k (eqb (get_or cs k 0 / d % m) x);
}
  where
    empty : (x : ℕ) → x < m → get_or sets x [] ≡ replicate (length cs / 64 + 2) 0
    empty x lt = ap (λ l. get_or l x []) are ∙ get_or-replicate m x (replicate (length cs / 64 + 2) 0) [] lt

    zeros : (n i z : ℕ) → get_or (replicate n z) i z ≡ z
    zeros zero i z = refl
    zeros (suc n) zero z = refl
    zeros (suc n) (suc i) z = zeros n i z

    behind : (k : ℕ) (b : Bool) → false ≡ (nat_lt k 0 && b)
    behind k b = grind (arith, nat_tests)

pub marked-all : (cs : List ℕ) (d m : ℕ) (sets : List (List ℕ)) → AreMarked cs (length cs) d m sets → AreDigits cs d m sets
marked-all cs d m sets are = record {
  each = λ x lt. record { long = are.long x (omega (arith, lt, are.all)); told = λ k within. are.told x (omega (arith, lt, are.all)) k ∙ here k (eqb (get_or cs k 0 / d % m) x) within };
  all = inl are.all;
}
  where
    here : (k : ℕ) (b : Bool) → k < length cs → (nat_lt k (length cs) && b) ≡ b
    here k b lt = grind (arith, nat_tests)

pub none-below : (cs : List ℕ) (d m : ℕ) → ((k : ℕ) → k < length cs → get_or cs k 0 < d) → AreDigits cs d m []
none-below cs d m below = record { each = λ x lt. absurd (omega (arith, lt)); all = inr (refl, below) }
