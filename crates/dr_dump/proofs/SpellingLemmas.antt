-- What is printed of bytes is read as these bytes.
use Rattle.std.proofs.Common.{◌≡◌, ◌∙◌, refl, ap, subst, ℕ, ◌-◌, ◌/◌, ◌%◌, ◌<◌, true, false, List, [], ◌∷◌, ◌++◌, length, take, drop, All, Ok, suc, codes, bytes_eq, arith}
use Rattle.std.specs.Prelude.{slice_index}
use Rattle.std.specs.Cmp.Lexicographic.{bytes_decides}
use Rattle.std.specs.List.{AllPass, list_all}
use Rattle.std.proofs.Math.Seq.{drop-append_seam}
use Rattle.std.proofs.lemmas.Bool.{false≢true, false_from_ne_true}
use Rattle.std.proofs.lemmas.List.{length-append, take-append-le, take_all}
use Rattle.std.proofs.lemmas.List.Elements.{All-drop, All-get_or, All-head}
use Rattle.std.proofs.lemmas.List.Sums.{AllPass-from_list_all}
use Rattle.hex.specs.Hex.{IsBytes, encode_lower, encode_with, lower_digits}
use Rattle.hex.proofs.HexLemmas.{decode_of-encode_lower}
use Rattle.dr_image.specs.Opening.{open_of}
use Rattle.dr_image.specs.Table.{Table}
use Rattle.dr_image.proofs.OpenedLemmas.{bytes_by}
use Rattle.dr_dump.specs.Dump.{bytes_of, dump_of, is_lower_digit, line_of, text_of}

lower_at : (i : ℕ) → i < 16 → is_lower_digit (slice_index lower_digits i) ≡ true
lower_at i less = All-get_or (λ c. is_lower_digit c ≡ true) lower_digits i 0 less (AllPass-from_list_all is_lower_digit lower_digits refl)

all_lower : (xs : List ℕ) → IsBytes xs → list_all is_lower_digit (encode_lower xs) ≡ true
unfolding encode_with
all_lower [] fit = refl
all_lower (b ∷ rest) fit =
    let byte : b < 256 = fit 0 in
    rw (lower_at (b / 16) (omega arith), lower_at (b % 16) (omega arith), all_lower rest (λ k. fit (suc k))) refl

bytes_read : (xs : List ℕ) → IsBytes xs → bytes_of (encode_lower xs) ≡ Ok xs
unfolding bytes_of
bytes_read xs fit = rw (all_lower xs fit, decode_of-encode_lower xs fit) refl

no_newline : (text : List ℕ) → list_all is_lower_digit text ≡ true → bytes_eq (drop (length text - 1) text) (codes "\n") ≡ false
no_newline text all =
    false_from_ne_true (bytes_eq (drop (length text - 1) text) (codes "\n")) (λ is.
    let last = (bytes_decides (drop (length text - 1) text) (codes "\n")).0 is in
    let rest = All-drop (λ c. is_lower_digit c ≡ true) (length text - 1) text (AllPass-from_list_all is_lower_digit text all) in
    false≢true (All-head (λ c. is_lower_digit c ≡ true) 10 [] (subst (AllPass is_lower_digit) last rest)))

line_whole : (text : List ℕ) → list_all is_lower_digit text ≡ true → line_of text ≡ text
line_whole text all = rw (no_newline text all) refl

line_ended : (text : List ℕ) → line_of (text ++ codes "\n") ≡ text
line_ended text =
    let n : length (text ++ 10 ∷ []) - 1 ≡ length text = omega (arith, length-append text (10 ∷ [])) in
    let end : drop (length (text ++ 10 ∷ []) - 1) (text ++ 10 ∷ []) ≡ 10 ∷ [] = ap (λ k. drop k (text ++ 10 ∷ [])) n ∙ drop-append_seam text (10 ∷ []) in
    rw end (ap (λ k. take k (text ++ 10 ∷ [])) n ∙ take-append-le (length text) text (10 ∷ []) (omega arith) ∙ take_all (length text) text (omega arith))

told_by : (file bytes : List ℕ) (t : Table) → IsBytes bytes → line_of file ≡ encode_lower bytes → open_of bytes ≡ Ok t → dump_of file ≡ Ok (text_of t)
unfolding dump_of
told_by file bytes t fit line opens = rw (line, bytes_read bytes fit, opens) refl

pub printed_told : (bytes : List ℕ) (t : Table) → All (λ b. b < 256) bytes → open_of bytes ≡ Ok t
    → (dump_of (encode_lower bytes) ≡ Ok (text_of t)) × (dump_of (encode_lower bytes ++ codes "\n") ≡ Ok (text_of t))
printed_told bytes t fit opens =
    let each = bytes_by bytes fit in (
      told_by (encode_lower bytes) bytes t each (line_whole (encode_lower bytes) (all_lower bytes each)) opens,
      told_by (encode_lower bytes ++ codes "\n") bytes t each (line_ended (encode_lower bytes)) opens,
    )
