-- The bits of a word.
use Rattle.std.proofs.Common.{inl, inr, ◌≡◌, ◌∙◌, sym, refl, ap, ap₂, ℕ, zero, suc, ◌+◌, ◌/◌, ◌%◌, ◌^◌, ◌*◌, ◌-◌, ◌<◌, ◌≤◌, ◌≢◌, ◌&&◌, ◌||◌, not, min, max, true, false, true≢false, eqb, List, get_or, arith}
use Rattle.std.specs.Int.{bit_at, w64}
use Rattle.std.specs.Int.RustNames.{bit_and, bit_or, bit_xor}
use Rattle.std.proofs.lemmas.Bool.{cases_lt}
use Rattle.std.proofs.lemmas.Nat.{shr-shr}
use Rattle.std.proofs.lemmas.Nat.Bits.{bit_at_and, bit_at_or, bit_at_xor, bit_at_set_same, bit_at_set_other, bit_at-lt, bit_at_ones, bit_at-zero, bit_at_above}
use Rattle.dr_bits.specs.Bits.{has_bit, truth_in}

-- ---- of numbers below two

both : (a b : ℕ) → a < 2 → b < 2 → eqb (min a b) 1 ≡ (eqb a 1 && eqb b 1)
both zero zero p q = refl
both zero (suc zero) p q = refl
both (suc zero) zero p q = refl
both (suc zero) (suc zero) p q = refl
both (suc (suc a)) b p q = absurd (omega (arith, p))
both zero (suc (suc b)) p q = absurd (omega (arith, q))
both (suc zero) (suc (suc b)) p q = absurd (omega (arith, q))

either : (a b : ℕ) → a < 2 → b < 2 → eqb (max a b) 1 ≡ (eqb a 1 || eqb b 1)
either zero zero p q = refl
either zero (suc zero) p q = refl
either (suc zero) zero p q = refl
either (suc zero) (suc zero) p q = refl
either (suc (suc a)) b p q = absurd (omega (arith, p))
either zero (suc (suc b)) p q = absurd (omega (arith, q))
either (suc zero) (suc (suc b)) p q = absurd (omega (arith, q))

first : (a b : ℕ) → a < 2 → b < 2 → eqb ((a + min a b) % 2) 1 ≡ (eqb a 1 && not (eqb b 1))
first zero zero p q = refl
first zero (suc zero) p q = refl
first (suc zero) zero p q = refl
first (suc zero) (suc zero) p q = refl
first (suc (suc a)) b p q = absurd (omega (arith, p))
first zero (suc (suc b)) p q = absurd (omega (arith, q))
first (suc zero) (suc (suc b)) p q = absurd (omega (arith, q))

-- ---- of words

pub bit-and : (w v k : ℕ) → has_bit (bit_and w v) k ≡ (has_bit w k && has_bit v k)
bit-and w v k = ap (λ n. eqb n 1) (bit_at_and w v k) ∙ both (bit_at w k) (bit_at v k) (bit_at-lt w k) (bit_at-lt v k)

pub bit-or : (w v k : ℕ) → has_bit (bit_or w v) k ≡ (has_bit w k || has_bit v k)
bit-or w v k = ap (λ n. eqb n 1) (bit_at_or w v k) ∙ either (bit_at w k) (bit_at v k) (bit_at-lt w k) (bit_at-lt v k)

pub bit-first : (w v k : ℕ) → has_bit (bit_xor w (bit_and w v)) k ≡ (has_bit w k && not (has_bit v k))
bit-first w v k =
    ap (λ n. eqb n 1) (bit_at_xor w (bit_and w v) k ∙ ap (λ n. (bit_at w k + n) % 2) (bit_at_and w v k))
    ∙ first (bit_at w k) (bit_at v k) (bit_at-lt w k) (bit_at-lt v k)

pub bit-zero : (k : ℕ) → has_bit 0 k ≡ false
bit-zero k = ap (λ n. eqb n 1) (bit_at-zero k)

pub bit-ones : (k : ℕ) → k < 64 → has_bit (2 ^ 64 - 1) k ≡ true
bit-ones k lt = ap (λ n. eqb n 1) (bit_at_ones 64 k lt)

pub bit-set : (w k : ℕ) → k < 64 → has_bit (bit_or w (1 * 2 ^ k % 2 ^ 64)) k ≡ true
bit-set w k lt = ap (λ n. eqb n 1) (bit_at_set_same w64 w k lt)

pub bit-other : (w k j : ℕ) → k < 64 → j ≢ k → has_bit (bit_or w (1 * 2 ^ k % 2 ^ 64)) j ≡ has_bit w j
bit-other w k j lt apart = ap (λ n. eqb n 1) (bit_at_set_other w64 w k lt j apart)

-- ---- the bits of a word from a place on

bit-from : (w b k : ℕ) → has_bit (w / 2 ^ b) k ≡ has_bit w (b + k)
bit-from w b k = ap (λ n. eqb (n % 2) 1) (shr-shr w b k)

-- a bit that one has there is one of the 64
bit-within : (w b k : ℕ) → w < 2 ^ 64 → has_bit (w / 2 ^ b) k ≡ true → b + k < 64
bit-within w b k word has = elim (cases_lt (b + k) 64) [
  | inl less ↦ less
  | inr more ↦ absurd (true≢false (sym has ∙ bit-from w b k ∙ ap (λ n. eqb n 1) (bit_at_above w 64 (b + k) word more)))
]

-- a bit of words behind a place, in the word of that place
bit-of-words : (words : List ℕ) (k j : ℕ) → k ≤ j → j < k + (64 - k % 64) → truth_in words j ≡ has_bit (get_or words (k / 64) 0 / 2 ^ (k % 64)) (j - k)
bit-of-words words k j le lt =
    let word : j / 64 ≡ k / 64 = omega (arith, le, lt) in
    let bit : j % 64 ≡ k % 64 + (j - k) = omega (arith, le, lt) in
    ap₂ (λ i n. has_bit (get_or words i 0) n) word bit ∙ sym (bit-from (get_or words (k / 64) 0) (k % 64) (j - k))

-- no place of some words from one on has its bit, up to another one of so many
abbrev pub HaveNone : (words : List ℕ) (from k count : ℕ) → Type 0
HaveNone words from k count = (j : ℕ) → from ≤ j → j < k → j < count → truth_in words j ≡ false

-- where the word of that place has no bit from it on, none before the next word has
pub none-in-word : (words : List ℕ) (from k count : ℕ) → k < count → HaveNone words from k count → get_or words (k / 64) 0 / 2 ^ (k % 64) ≡ 0 → (j : ℕ) → from ≤ j → j < k + (64 - k % 64) → truth_in words j ≡ false
none-in-word words from k count within before none j le lt = elim (cases_lt j k) [
  | inl less ↦ before j le less (omega (arith, less, within))
  | inr more ↦ bit-of-words words k j more lt ∙ ap (λ w. has_bit w (j - k)) none ∙ bit-zero (j - k)
]

-- where it has one, the lowest is the first
pub first-in-word : (words : List ℕ) (from k count l : ℕ) → k < count → HaveNone words from k count → get_or words (k / 64) 0 < 2 ^ 64 → has_bit (get_or words (k / 64) 0 / 2 ^ (k % 64)) l ≡ true → ((j : ℕ) → j < l → has_bit (get_or words (k / 64) 0 / 2 ^ (k % 64)) j ≡ false) → (truth_in words (k + l) ≡ true) × ((j : ℕ) → from ≤ j → j < k + l → truth_in words j ≡ false)
first-in-word words from k count l within before word has lower = (
  bit-of-words words k (k + l) (omega arith) (omega (arith, inside)) ∙ ap (has_bit (get_or words (k / 64) 0 / 2 ^ (k % 64))) same ∙ has,
  λ j le lt. elim (cases_lt j k) [
    | inl less ↦ before j le less (omega (arith, less, within))
    | inr more ↦ bit-of-words words k j more (omega (arith, lt, inside)) ∙ lower (j - k) (omega (arith, lt, more))
  ],
)
  where
    inside : k % 64 + l < 64
    inside = bit-within (get_or words (k / 64) 0) (k % 64) l word has

    same : k + l - k ≡ l
    same = omega arith
