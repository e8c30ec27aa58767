-- The characters of the parts of a text.
use Rattle.std.proofs.Common.{◌≡◌, sym, ap, ◌∙◌, subst, arith, ℕ, ◌≤◌, ◌==◌, List, [], ◌∷◌, ◌++◌, length, take, drop, append-nil}
use Rattle.std.specs.Str.{chars, IsUtf8, NoCharPasses}
use Rattle.std.specs.Str.Pattern.{HasCharAt}
use Rattle.std.proofs.lemmas.List.{take-append-drop, take_at, drop_at, length-append}
use Rattle.std.proofs.lemmas.Str.{chars_from_encodes, chars-append, chars_past_char, chars-nil, IsUtf8-drop, IsCharBoundary-from_take}
use lib.Utf8.{encode}
use Rattle.dr_like.specs.Letters.{Lacks}

pub chars-cut : (bs : List ℕ) (i : ℕ) → IsUtf8 (take i bs) → chars bs ≡ chars (take i bs) ++ chars (drop i bs)
chars-cut bs i u = ap chars (sym (take-append-drop i bs)) ∙ chars-append (take i bs) (drop i bs) u

utf8_behind : (bs xs ys : List ℕ) → IsUtf8 bs → IsUtf8 xs → bs ≡ xs ++ ys → IsUtf8 ys
utf8_behind bs xs ys u front is =
    let bound : length xs ≤ length bs = omega (arith, ap length is, length-append xs ys) in
    let cut : take (length xs) bs ≡ xs = ap (take (length xs)) is ∙ take_at xs ys (length xs) (λ i. length xs) in
    subst IsUtf8 (ap (drop (length xs)) is ∙ drop_at xs ys (length xs) (λ i. length xs)) (IsUtf8-drop bs (length xs) u (IsCharBoundary-from_take bs (length xs) u bound (subst IsUtf8 (sym cut) front)))

-- a character behind a text
pub chars-push : (bs xs : List ℕ) (c : ℕ) → IsUtf8 bs → IsUtf8 xs → bs ≡ xs ++ encode c → chars bs ≡ chars xs ++ c ∷ []
chars-push bs xs c u front is =
    let one : chars (encode c) ≡ c ∷ [] = chars_past_char (encode c) [] c (utf8_behind bs xs (encode c) u front is) (sym (append-nil (encode c))) ∙ ap (λ l. c ∷ l) chars-nil in
    ap chars is ∙ chars-append xs (encode c) front ∙ ap (λ l. chars xs ++ l) one

pub lacks-chars : (c : ℕ) (bs : List ℕ) → IsUtf8 bs → NoCharPasses (λ d. d == c) bs → Lacks c (chars bs)
lacks-chars c bs u none = subst (Lacks c) (chars_from_encodes none.0 bs u none.1) none.2

-- the text is cut round a character
pub chars-around : (c : ℕ) (bs : List ℕ) (i j : ℕ) → IsUtf8 bs → IsUtf8 (take i bs) → i ≤ length bs → HasCharAt c bs i j → chars bs ≡ chars (take i bs) ++ c ∷ chars (drop j bs)
chars-around c bs i j u front bound at =
    let behind : IsUtf8 (drop i bs) = IsUtf8-drop bs i u (IsCharBoundary-from_take bs i u bound front) in
    chars-cut bs i front ∙ ap (λ l. chars (take i bs) ++ l) (chars_past_char (drop i bs) (drop j bs) c behind at.split)
