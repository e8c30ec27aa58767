-- Texts of digits with a sign, as they are parsed.
use Rattle.std.proofs.Common.{◌≡◌, sym, refl, ℕ, zero, suc, ◌<◌, ◌≤◌, ◌^◌, true, false, List, [], ◌∷◌, length, fold, ◌+◌, ◌-◌, ◌*◌, ℤ, pos, negsuc, neg_ℤ, Some, None, Result, Ok, Err, rules, arith, w64}
use Rattle.std.specs.Prelude.{◌==◌, nat_lt, option_map, option_and_then, if◌then◌else◌}
use Rattle.std.specs.Result.{result_ok, OkIff}
use Rattle.std.specs.Str.{all_ascii_digits}
use Rattle.std.specs.Str.Parse.{ParsesSigned}
use Rattle.std.proofs.lemmas.Str.Parse.{IsNumeralModel, numerals_by_fold, tells_all_ascii_digits, parse_signed_plus, parse_signed_minus, parse_signed_plain}
use borrow.Author.Tests.{eqb-true, eqb-false, ltb-true, lt-ltb}
use Rattle.dr_events.specs.WholeNumber.{in_64_bits, digits_number, signed_number}
use Rattle.dr_time.specs.Spelling.{number_of}

pub own : IsNumeralModel (λ ds. all_ascii_digits ds ≡ true) number_of
own = numerals_by_fold (λ ds. all_ascii_digits ds ≡ true) tells_all_ascii_digits (λ n ds. fold (λ n c. n * 10 + (c - 48)) n ds) (search rules)

-- digits behind no sign or a plus
pos_digits : {E : Type 0} → (ds : List ℕ) (r : Result ℤ E) → OkIff r ((all_ascii_digits ds ≡ true) × (0 < length ds) × (number_of ds < 2 ^ 63)) (pos (number_of ds))
    → result_ok r ≡ option_and_then in_64_bits (option_map pos (digits_number ds))
pos_digits [] (Ok x) h = let lt : 0 < 0 = h.0.1 in absurd (omega arith)
pos_digits [] (Err e) h = refl
pos_digits (d ∷ ds) (Ok x) h = rw (h.0.0, lt-ltb (number_of (d ∷ ds)) (2 ^ 63) h.0.2, h.1) refl
pos_digits (d ∷ ds) (Err e) h =
    elim (all_ascii_digits (d ∷ ds)) as (λ b. all_ascii_digits (d ∷ ds) ≡ b → None ≡ option_and_then in_64_bits (option_map pos (if b then Some (number_of (d ∷ ds)) else None))) [
      | true ↦ λ t. elim (nat_lt (number_of (d ∷ ds)) (2 ^ 63)) as (λ b. nat_lt (number_of (d ∷ ds)) (2 ^ 63) ≡ b → None ≡ (if b then Some (pos (number_of (d ∷ ds))) else None))
          [ true ↦ λ u. absurd (h (t, omega arith, ltb-true (number_of (d ∷ ds)) (2 ^ 63) u)) | false ↦ λ u. refl ] refl
      | false ↦ λ t. refl
    ]
    refl

in_64_bits-neg : (n : ℕ) → n ≤ 2 ^ 63 → in_64_bits (neg_ℤ (pos n)) ≡ Some (neg_ℤ (pos n))
in_64_bits-neg zero le = refl
in_64_bits-neg (suc n) le = rw (lt-ltb n (2 ^ 63) (omega arith)) refl

in_64_bits-neg_none : (n : ℕ) → (n ≤ 2 ^ 63 → ⊥) → in_64_bits (neg_ℤ (pos n)) ≡ None
in_64_bits-neg_none zero fails = absurd (fails (omega arith))
in_64_bits-neg_none (suc n) fails =
    elim (nat_lt n (2 ^ 63)) as (λ b. nat_lt n (2 ^ 63) ≡ b → (if b then Some (negsuc n) else None) ≡ None)
    [ true ↦ λ u. let lt = ltb-true n (2 ^ 63) u in absurd (fails (omega arith)) | false ↦ λ u. refl ] refl

-- digits behind a minus
neg_digits : {E : Type 0} → (ds : List ℕ) (r : Result ℤ E) → OkIff r ((all_ascii_digits ds ≡ true) × (0 < length ds) × (number_of ds ≤ 2 ^ 63)) (neg_ℤ (pos (number_of ds)))
    → result_ok r ≡ option_and_then in_64_bits (option_map (λ n. neg_ℤ (pos n)) (digits_number ds))
neg_digits [] (Ok x) h = let lt : 0 < 0 = h.0.1 in absurd (omega arith)
neg_digits [] (Err e) h = refl
neg_digits (d ∷ ds) (Ok x) h = rw (h.0.0, in_64_bits-neg (number_of (d ∷ ds)) h.0.2, h.1) refl
neg_digits (d ∷ ds) (Err e) h =
    elim (all_ascii_digits (d ∷ ds)) as (λ b. all_ascii_digits (d ∷ ds) ≡ b → None ≡ option_and_then in_64_bits (option_map (λ n. neg_ℤ (pos n)) (if b then Some (number_of (d ∷ ds)) else None))) [
      | true ↦ λ t. sym (in_64_bits-neg_none (number_of (d ∷ ds)) (λ le. h (t, omega arith, le)))
      | false ↦ λ t. refl
    ]
    refl

parsed_text : {E : Type 0} → (c : ℕ) (cs : List ℕ) (r : Result ℤ E) → ParsesSigned w64 10 (c ∷ cs) r → result_ok r ≡ option_and_then in_64_bits (signed_number (c ∷ cs))
parsed_text c cs r h =
    elim (c == 43) as (λ b. (c == 43) ≡ b → result_ok r ≡ option_and_then in_64_bits (if b then option_map pos (digits_number cs) else (if c == 45 then option_map (λ n. neg_ℤ (pos n)) (digits_number cs) else option_map pos (digits_number (c ∷ cs))))) [
      | true ↦ λ t. pos_digits cs r (parse_signed_plus own w64 (c ∷ cs) r h (eqb-true c 43 t))
      | false ↦ λ t.
          elim (c == 45) as (λ b. (c == 45) ≡ b → result_ok r ≡ option_and_then in_64_bits (if b then option_map (λ n. neg_ℤ (pos n)) (digits_number cs) else option_map pos (digits_number (c ∷ cs)))) [
            | true ↦ λ u. neg_digits cs r (parse_signed_minus own w64 (c ∷ cs) r h (eqb-true c 45 u))
            | false ↦ λ u. pos_digits (c ∷ cs) r (parse_signed_plain own w64 (c ∷ cs) r h (eqb-false c 43 t) (eqb-false c 45 u))
          ]
          refl
    ]
    refl

pub parsed : {E : Type 0} → (bs : List ℕ) (r : Result ℤ E) → ParsesSigned w64 10 bs r → result_ok r ≡ option_and_then in_64_bits (signed_number bs)
parsed [] r h = pos_digits [] r (parse_signed_plain own w64 [] r h (λ e. cc) (λ e. cc))
parsed (c ∷ cs) r h = parsed_text c cs r h
