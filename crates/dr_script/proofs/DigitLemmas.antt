-- Hexadecimal digits that are written piece by piece.
use Rattle.std.proofs.Common.{◌≡◌, ◌∙◌, ◌+◌, ◌/◌, ◌%◌, slice_index, refl, sym, ap, subst, ℕ, List, [], ◌∷◌, ◌++◌, Option, take, drop, append_assoc, take-append-drop, append-nil}
use Rattle.std.proofs.Math.Seq.{take-add}
use Rattle.hex.specs.Hex.{encode_with, encode_lower, lower_digits}
use Rattle.dr_lines.specs.Written.{Writes}
use Rattle.dr_lines.proofs.WrittenLemmas.{Writes-none, Writes-trans, lost_with}

-- the digits of two lists are those of the one and then those of the other
encoded_behind : (t xs ys : List ℕ) → encode_with t (xs ++ ys) ≡ encode_with t xs ++ encode_with t ys
unfolding encode_with
encoded_behind t [] ys = refl
encoded_behind t (x ∷ xs) ys = ap (λ l. slice_index t (x / 16) ∷ (slice_index t (x % 16) ∷ l)) (encoded_behind t xs ys)

-- one more piece
one_more : (before bytes : List ℕ) (done count : ℕ) → before ++ encode_lower (take (done + count) bytes) ≡ (before ++ encode_lower (take done bytes)) ++ encode_lower (take count (drop done bytes))
one_more before bytes done count =
    ap (λ l. before ++ encode_lower l) (take-add done count bytes) ∙ ap (λ l. before ++ l) (encoded_behind lower_digits (take done bytes) (take count (drop done bytes)))
    ∙ sym (append_assoc before (encode_lower (take done bytes)) (encode_lower (take count (drop done bytes))))

-- no digit yet
pub puts_no_digit : (contents : Option (List ℕ)) (bytes : List ℕ) → Writes contents contents (bytes ++ encode_lower []) bytes
unfolding encode_with
puts_no_digit contents bytes = subst (λ l. Writes contents contents l bytes) (sym (append-nil bytes)) (Writes-none contents bytes)

-- a piece was written behind those before
pub puts_piece : (old mid new : Option (List ℕ)) (before bytes : List ℕ) (done count : ℕ) (kept rest : List ℕ) → Writes old mid (before ++ encode_lower (take done bytes)) kept
    → Writes mid new (kept ++ encode_lower (take count (drop done bytes))) rest → Writes old new (before ++ encode_lower (take (done + count) bytes)) rest
puts_piece old mid new before bytes done count kept rest written put =
    subst (λ l. Writes old new l rest) (sym (one_more before bytes done count))
    (Writes-trans old mid new (before ++ encode_lower (take done bytes)) kept (encode_lower (take count (drop done bytes))) rest written put)

-- what wasn't spelled any more is lost with the others
loses_digits : (old new : Option (List ℕ)) (before bytes : List ℕ) (done : ℕ) (lost : List ℕ) → Writes old new (before ++ encode_lower (take done bytes)) lost
    → Writes old new (before ++ encode_lower bytes) (lost ++ encode_lower (drop done bytes))
loses_digits old new before bytes done lost written =
    subst (λ l. Writes old new l (lost ++ encode_lower (drop done bytes)))
    (append_assoc before (encode_lower (take done bytes)) (encode_lower (drop done bytes))
    ∙ ap (λ l. before ++ l) (sym (encoded_behind lower_digits (take done bytes) (drop done bytes)) ∙ ap encode_lower (take-append-drop done bytes)))
    (lost_with old new (before ++ encode_lower (take done bytes)) lost (encode_lower (drop done bytes)) written)

-- so where a piece couldn't be written
pub loses_piece : (old mid new : Option (List ℕ)) (before bytes : List ℕ) (done count : ℕ) (kept lost : List ℕ) → Writes old mid (before ++ encode_lower (take done bytes)) kept
    → Writes mid new (kept ++ encode_lower (take count (drop done bytes))) lost → (all : List ℕ) × Writes old new (before ++ encode_lower bytes) all
loses_piece old mid new before bytes done count kept lost written put =
    (lost ++ encode_lower (drop (done + count) bytes), loses_digits old new before bytes (done + count) lost (puts_piece old mid new before bytes done count kept lost written put))
