-- Whole numbers, as JSON numbers and as texts of decimal digits (which texts are numbers is this project's own).
use Rattle.std.specs.Prelude.{ℕ, ◌^◌, nat_lt, ◌==◌, ℤ, pos, negsuc, neg_ℤ, List, [], ◌∷◌, Option, Some, None, option_map, if◌then◌else◌}
use Rattle.std.specs.Str.{all_ascii_digits}
use Rattle.dr_time.specs.Spelling.{number_of}

-- a number from -2^63 to 2^63 - 1
abbrev pub in_64_bits : ℤ → Option ℤ
in_64_bits (pos n) = if nat_lt n (2 ^ 63) then Some (pos n) else None
in_64_bits (negsuc n) = if nat_lt n (2 ^ 63) then Some (negsuc n) else None

-- the number that one or more decimal digits spell
abbrev pub digits_number : List ℕ → Option ℕ
digits_number [] = None
digits_number (c ∷ cs) = if all_ascii_digits (c ∷ cs) then Some (number_of (c ∷ cs)) else None

abbrev pub plus : ℕ
plus = 43

abbrev pub minus : ℕ
minus = 45

-- an optional sign, and one or more decimal digits
abbrev pub signed_number : List ℕ → Option ℤ
signed_number [] = None
signed_number (c ∷ cs) =
    if c == plus then option_map pos (digits_number cs) else (if c == minus then option_map (λ n. neg_ℤ (pos n)) (digits_number cs) else option_map pos (digits_number (c ∷ cs)))

-- an optional `-`, and one or more decimal digits
abbrev pub plain_number : List ℕ → Option ℤ
plain_number [] = None
plain_number (c ∷ cs) = if c == plus then None else signed_number (c ∷ cs)
