-- Numbers that are written with zeros in front, and the digits that are passed over.
use Rattle.std.proofs.Common.{◌≡◌, ℕ, suc, ◌+◌, ◌-◌, ◌*◌, ◌/◌, ◌%◌, ◌^◌, ◌<◌, ◌≤◌, true, List, [], ◌∷◌, ◌++◌, length, take, codes, replicate, refl, sym, ap, ◌∙◌, inl, inr, arith, append_assoc, length-append}
use Rattle.std.specs.Fmt.{decimal}
use Rattle.std.proofs.lemmas.Bool.{cases_lt}
use Rattle.std.proofs.lemmas.Bool.Decides.{nat_tests}
use Rattle.std.proofs.lemmas.Fmt.{decimal_digit, decimal_step}
use Rattle.dr_time.specs.Printed.{zero_padded}
use Rattle.dr_time.specs.Digits.{is_digit, digit_or_zero, behind_digits}
use Rattle.dr_time.specs.Spelling.{AreDigits, IsNumeral, number_of}

zero_padded-small : (width n : ℕ) → n < 10 → zero_padded width n ≡ replicate (width - 1) 48 ++ (48 + n) ∷ []
zero_padded-small width n lt = rw (decimal_digit n lt) refl

zero_padded-large : (width n : ℕ) → 10 ≤ n → n < 2 ^ 64 → zero_padded (suc width) n ≡ zero_padded width (n / 10) ++ (48 + n % 10) ∷ []
zero_padded-large width n le lt =
    let long : suc width - length (decimal (n / 10) ++ (48 + n % 10) ∷ []) ≡ width - length (decimal (n / 10)) = simp length-append (omega arith) in
    rw (decimal_step n le lt, long) (sym (append_assoc (replicate (width - length (decimal (n / 10))) 48) (decimal (n / 10)) ((48 + n % 10) ∷ [])))

-- the digits of a number below 100, and of one below 10000
pub zero_padded-two : (n : ℕ) → n < 100 → zero_padded 2 n ≡ (48 + n / 10) ∷ (48 + n % 10) ∷ []
zero_padded-two n lt =
    elim (cases_lt n 10) [
      | inl small ↦
          let tens : n / 10 ≡ 0 = omega arith in
          let ones : n % 10 ≡ n = omega arith in
          zero_padded-small 2 n small ∙ rw (tens, ones) refl
      | inr large ↦ rw (zero_padded-large 1 n large (omega arith), zero_padded-small 1 (n / 10) (omega arith)) refl
    ]

zero_padded-three : (n : ℕ) → n < 1000 → zero_padded 3 n ≡ (48 + n / 100) ∷ (48 + n / 10 % 10) ∷ (48 + n % 10) ∷ []
zero_padded-three n lt =
    elim (cases_lt n 10) [
      | inl small ↦
          let hundreds : n / 100 ≡ 0 = omega arith in
          let tens : n / 10 ≡ 0 = omega arith in
          let ones : n % 10 ≡ n = omega arith in
          zero_padded-small 3 n small ∙ rw (hundreds, tens, ones) refl
      | inr large ↦
          let hundreds : n / 10 / 10 ≡ n / 100 = omega arith in
          rw (zero_padded-large 2 n large (omega arith), zero_padded-two (n / 10) (omega arith), hundreds) refl
    ]

pub zero_padded-four : (n : ℕ) → n < 10000 → zero_padded 4 n ≡ (48 + n / 1000) ∷ (48 + n / 100 % 10) ∷ (48 + n / 10 % 10) ∷ (48 + n % 10) ∷ []
zero_padded-four n lt =
    elim (cases_lt n 10) [
      | inl small ↦
          let thousands : n / 1000 ≡ 0 = omega arith in
          let hundreds : n / 100 ≡ 0 = omega arith in
          let tens : n / 10 ≡ 0 = omega arith in
          let ones : n % 10 ≡ n = omega arith in
          zero_padded-small 4 n small ∙ rw (thousands, hundreds, tens, ones) refl
      | inr large ↦
          let thousands : n / 10 / 100 ≡ n / 1000 = omega arith in
          let hundreds : n / 10 / 10 ≡ n / 100 = omega arith in
          rw (zero_padded-large 3 n large (omega arith), zero_padded-three (n / 10) (omega arith), thousands, hundreds) refl
    ]

is_digit-digit : (d : ℕ) → d < 10 → is_digit (48 + d) ≡ true
is_digit-digit d lt = grind (arith, nat_tests)

-- the digits that are written are a numeral of the number
pub record Writes (width : ℕ) (text : List ℕ) (n : ℕ) : Type 0 where
  pub numeral : IsNumeral width text
  pub value : number_of text ≡ n

writes-two : (a b : ℕ) → a < 10 → b < 10 → Writes 2 ((48 + a) ∷ (48 + b) ∷ []) (a * 10 + b)
writes-two a b la lb = record { numeral = (rw (is_digit-digit a la, is_digit-digit b lb) refl, refl); value = omega arith }

pub zero_padded-writes_two : (n : ℕ) → n < 100 → Writes 2 (zero_padded 2 n) n
zero_padded-writes_two n lt =
    let value : n / 10 * 10 + n % 10 ≡ n = omega arith in
    rw (zero_padded-two n lt) (rw value at (writes-two (n / 10) (n % 10) (omega arith) (omega arith)))

writes-four : (a b c d : ℕ) → a < 10 → b < 10 → c < 10 → d < 10 → Writes 4 ((48 + a) ∷ (48 + b) ∷ (48 + c) ∷ (48 + d) ∷ []) (a * 1000 + b * 100 + c * 10 + d)
writes-four a b c d la lb lc ld =
    record { numeral = (rw (is_digit-digit a la, is_digit-digit b lb, is_digit-digit c lc, is_digit-digit d ld) refl, refl); value = omega arith }

pub zero_padded-writes_four : (n : ℕ) → n < 10000 → Writes 4 (zero_padded 4 n) n
zero_padded-writes_four n lt =
    let value : n / 1000 * 1000 + n / 100 % 10 * 100 + n / 10 % 10 * 10 + n % 10 ≡ n = omega arith in
    rw (zero_padded-four n lt) (rw value at (writes-four (n / 1000) (n / 100 % 10) (n / 10 % 10) (n % 10) (omega arith) (omega arith) (omega arith) (omega arith)))

-- three digits of a fraction
pub record WritesMillis (text : List ℕ) (n : ℕ) : Type 0 where
  pub digits : AreDigits text
  pub long : length text ≡ 3
  pub value : number_of (take 3 (text ++ codes "00")) ≡ n

writes-three : (a b c : ℕ) → a < 10 → b < 10 → c < 10 → WritesMillis ((48 + a) ∷ (48 + b) ∷ (48 + c) ∷ []) (a * 100 + b * 10 + c)
writes-three a b c la lb lc =
    record { digits = rw (is_digit-digit a la, is_digit-digit b lb, is_digit-digit c lc) refl; long = refl; value = omega arith }

pub zero_padded-writes_millis : (n : ℕ) → n < 1000 → WritesMillis (zero_padded 3 n) n
zero_padded-writes_millis n lt =
    let value : n / 100 * 100 + n / 10 % 10 * 10 + n % 10 ≡ n = omega arith in
    rw (zero_padded-three n lt) (rw value at (writes-three (n / 100) (n / 10 % 10) (n % 10) (omega arith) (omega arith) (omega arith)))

-- ---- passing over digits

pub behind_digits-zero : (text : List ℕ) → behind_digits 0 text ≡ text
unfolding behind_digits
behind_digits-zero text = refl

pub behind_digits-suc : (most : ℕ) (text : List ℕ) → behind_digits (suc most) text ≡ behind_digits most (digit_or_zero text).1
unfolding behind_digits
behind_digits-suc most text = refl

pub behind_digits-goes_on : (most i : ℕ) (text next all : List ℕ) → i < most → next ≡ (digit_or_zero text).1 → behind_digits (most - i) text ≡ all → behind_digits (most - (i + 1)) next ≡ all
behind_digits-goes_on most i text next all lt is h =
    let more : most - i ≡ suc (most - (i + 1)) = omega arith in
    rw is (sym (behind_digits-suc (most - (i + 1)) text) ∙ (ap (λ n. behind_digits n text) (sym more) ∙ h))

pub behind_digits-ends : (most i : ℕ) (text all : List ℕ) → most ≤ i → behind_digits (most - i) text ≡ all → text ≡ all
behind_digits-ends most i text all le h =
    let none : most - i ≡ 0 = omega arith in
    sym (behind_digits-zero text) ∙ rw none at h
