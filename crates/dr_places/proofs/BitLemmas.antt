-- The bits of a word.
use Rattle.std.proofs.Common.{inl, inr, ◌≡◌, ◌∙◌, sym, refl, ap, ap₂, ℕ, ◌+◌, ◌/◌, ◌%◌, ◌^◌, ◌*◌, ◌-◌, ◌<◌, ◌≤◌, Bool, max, true, false, eqb, nat_lt, arith, if◌then◌else◌}
use Rattle.std.specs.Int.{bit_at}
use Rattle.std.specs.Int.RustNames.{bit_or}
use Rattle.std.proofs.lemmas.Bool.{cases_lt}
use Rattle.std.proofs.lemmas.Nat.{div-add-mod', pow_pos, shr-shr}
use Rattle.std.proofs.lemmas.Nat.Bits.{bit_at_or, bit_at_ones, bit_at-zero, bit_at_above, bit_at_cat_low, bit_at_cat_high}
use Rattle.std.proofs.lemmas.Bool.Decides.{nat_tests}
use Rattle.dr_places.specs.Places.{has_bit, bit_from}

-- ---- the bits of a word from a place on

-- what doesn't fit into a word is none of its bits
low : (x j : ℕ) → j < 64 → bit_at (x % 2 ^ 64) j ≡ bit_at x j
low x j lt = sym (bit_at_cat_low (x / 2 ^ 64) 64 (x % 2 ^ 64) j lt) ∙ ap (λ n. bit_at n j) (div-add-mod' x (2 ^ 64))

up-low : (x c j : ℕ) → j < c → bit_at (x * 2 ^ c) j ≡ 0
up-low x c j lt = ap (λ n. bit_at n j) (sym (plus-zero (x * 2 ^ c))) ∙ bit_at_cat_low x c 0 j lt ∙ bit_at-zero j
  where
    plus-zero : (n : ℕ) → n + 0 ≡ n
    plus-zero n = omega arith

up-high : (x c j : ℕ) → c ≤ j → bit_at (x * 2 ^ c) j ≡ bit_at x (j - c)
up-high x c j le = ap (λ n. bit_at n j) (sym (plus-zero (x * 2 ^ c))) ∙ bit_at_cat_high x c 0 j (pow_pos c) le
  where
    plus-zero : (n : ℕ) → n + 0 ≡ n
    plus-zero n = omega arith

down : (w b j : ℕ) → bit_at (w / 2 ^ b) j ≡ bit_at w (j + b)
down w b j = let order : b + j ≡ j + b = omega arith in ap (λ n. n % 2) (shr-shr w b j) ∙ ap (bit_at w) order

next-low : (v b j : ℕ) → b < 64 → j < 64 → j + b < 64 → bit_at (v * 2 ^ 1 % 2 ^ 64 * 2 ^ (63 - b) % 2 ^ 64) j ≡ 0
next-low v b j within lt less = low (v * 2 ^ 1 % 2 ^ 64 * 2 ^ (63 - b)) j lt ∙ elim (cases_lt j (63 - b)) [
  | inl under ↦ up-low (v * 2 ^ 1 % 2 ^ 64) (63 - b) j under
  | inr le ↦ (let last : j - (63 - b) ≡ 0 = omega (arith, within, less, le) in
      up-high (v * 2 ^ 1 % 2 ^ 64) (63 - b) j le ∙ ap (bit_at (v * 2 ^ 1 % 2 ^ 64)) last ∙ low (v * 2 ^ 1) 0 (omega arith) ∙ up-low v 1 0 (omega arith))
]

next-high : (v b j : ℕ) → b < 64 → j < 64 → 64 ≤ j + b → bit_at (v * 2 ^ 1 % 2 ^ 64 * 2 ^ (63 - b) % 2 ^ 64) j ≡ bit_at v (j + b - 64)
next-high v b j within lt more =
    let same : j - (63 - b) - 1 ≡ j + b - 64 = omega (arith, within, more) in
    low (v * 2 ^ 1 % 2 ^ 64 * 2 ^ (63 - b)) j lt ∙ up-high (v * 2 ^ 1 % 2 ^ 64) (63 - b) j (omega (arith, within, more))
    ∙ low (v * 2 ^ 1) (j - (63 - b)) (omega (arith, lt)) ∙ up-high v 1 (j - (63 - b)) (omega (arith, within, more)) ∙ ap (bit_at v) same

pub word-from : (w v b : ℕ) → w < 2 ^ 64 → b < 64 → (j : ℕ) → j < 64 → has_bit (bit_or (w / 2 ^ b) (v * 2 ^ 1 % 2 ^ 64 * 2 ^ (63 - b) % 2 ^ 64)) j ≡ bit_from w v b j
word-from w v b word within j lt = at (nat_lt (j + b) 64) refl
  where
    at : (t : Bool) → nat_lt (j + b) 64 ≡ t → has_bit (bit_or (w / 2 ^ b) (v * 2 ^ 1 % 2 ^ 64 * 2 ^ (63 - b) % 2 ^ 64)) j ≡ (if t then has_bit w (j + b) else has_bit v (j + b - 64))
    at true is =
        let less : j + b < 64 = grind (arith, nat_tests) in
        ap (λ n. eqb n 1) (bit_at_or (w / 2 ^ b) (v * 2 ^ 1 % 2 ^ 64 * 2 ^ (63 - b) % 2 ^ 64) j ∙ ap₂ max (down w b j) (next-low v b j within lt less) ∙ omega arith)
    at false is =
        let more : 64 ≤ j + b = grind (arith, nat_tests) in
        ap (λ n. eqb n 1) (bit_at_or (w / 2 ^ b) (v * 2 ^ 1 % 2 ^ 64 * 2 ^ (63 - b) % 2 ^ 64) j
        ∙ ap₂ max (down w b j ∙ bit_at_above w 64 (j + b) word more) (next-high v b j within lt more) ∙ omega arith)

pub bit-ones : (k : ℕ) → k < 64 → has_bit (2 ^ 64 - 1) k ≡ true
bit-ones k lt = ap (λ n. eqb n 1) (bit_at_ones 64 k lt)

-- from the first bit on
pub word-whole : (w v j : ℕ) → j < 64 → has_bit w j ≡ bit_from w v 0 j
word-whole w v j lt = at (nat_lt (j + 0) 64) refl
  where
    same : j ≡ j + 0
    same = omega arith

    at : (t : Bool) → nat_lt (j + 0) 64 ≡ t → has_bit w j ≡ (if t then has_bit w (j + 0) else has_bit v (j + 0 - 64))
    at true is = ap (has_bit w) same
    at false is = let more : 64 ≤ j + 0 = grind (arith, nat_tests) in absurd (omega (arith, lt, more))
