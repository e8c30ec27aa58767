-- Numbers that were read are written back, and numbers that were written are read back.
use Rattle.std.proofs.Common.{◌≡◌, ◌∙◌, sym, refl, ap, ℕ, ℤ, zero, suc, ◌+◌, ◌*◌, ◌^◌, ◌<◌, ◌≤◌, FitsSigned, List, [], ◌∷◌, ◌++◌, length, take, drop, get_or, arith, lit<}
use Rattle.std.specs.List.{AllByRecursion}
use Rattle.std.specs.Int.{w16, w32, w64, from_le_bytes, to_le_bytes, cast_signed, cast_unsigned}
use Rattle.std.proofs.lemmas.Nat.{le_bytes_2, le_bytes_4, le_bytes_8, from_le_bytes-to_le_bytes_4, from_le_bytes-to_le_bytes_8}
use Rattle.std.proofs.lemmas.Int.{of_z-to_z, to_z-of_z}
use mir.ValLaws.{of_z_fits}
use Rattle.std.proofs.lemmas.List.{drop-drop, take-append-drop, append_assoc, length-drop, length-take, get_or-drop}
use Rattle.dr_image.specs.Words.{word, words, long, longs, word_at, four_bytes, eight_bytes, spelled_words, spelled_longs}

abbrev pub AreBytes : List ℕ → Type 0
AreBytes bs = (i : ℕ) → get_or bs i 0 < 256

pub bytes-drop : (n : ℕ) (bs : List ℕ) → AreBytes bs → AreBytes (drop n bs)
bytes-drop n bs fits i = rw (get_or-drop n bs i 0) (fits (n + i))

pub bytes-take : (n : ℕ) (bs : List ℕ) → AreBytes bs → AreBytes (take n bs)
bytes-take zero bs fits i = lit< tt
bytes-take (suc n) [] fits i = lit< tt
bytes-take (suc n) (b ∷ bs) fits zero = fits zero
bytes-take (suc n) (b ∷ bs) fits (suc i) = bytes-take n bs (λ j. fits (suc j)) i

-- ---- bytes in front

-- what stands in front of k bytes that are left away
abbrev pub Fronts : List ℕ → ℕ → List ℕ → Type 0
Fronts x k bs = x ++ drop k bs ≡ bs

pub fronts_then : (x y : List ℕ) (k j n : ℕ) (bs : List ℕ) → Fronts x k bs → Fronts y j (drop k bs) → k + j ≡ n → Fronts (x ++ y) n bs
fronts_then x y k j n bs first second e =
    append_assoc x y (drop n bs) ∙ ap (λ m. x ++ (y ++ drop m bs)) (sym e) ∙ ap (λ z. x ++ (y ++ z)) (sym (drop-drop j k bs)) ∙ ap (λ z. x ++ z) second ∙ first

pub fronts_by : (x : List ℕ) (k : ℕ) (bs : List ℕ) → x ≡ take k bs → Fronts x k bs
fronts_by x k bs e = ap (λ z. z ++ drop k bs) e ∙ take-append-drop k bs

pub fronts_none : (bs : List ℕ) → Fronts [] 0 bs
fronts_none bs = refl

-- ---- read and written

pub two_back : (at : ℕ) (bs : List ℕ) → at + 2 ≤ length bs → AreBytes bs → to_le_bytes w16 (word_at w16 at bs) ≡ take 2 (drop at bs)
unfolding word_at
two_back at bs le fits = le_bytes_2 (take 2 (drop at bs)) (from_le_bytes w16 (take 2 (drop at bs))) (omega (arith, length-take 2 (drop at bs), length-drop at bs)) (bytes-take 2 (drop at bs) (bytes-drop at bs fits)) refl

pub four_back : (at : ℕ) (bs : List ℕ) → at + 4 ≤ length bs → AreBytes bs → to_le_bytes w32 (word_at w32 at bs) ≡ take 4 (drop at bs)
unfolding word_at
four_back at bs le fits = le_bytes_4 (take 4 (drop at bs)) (from_le_bytes w32 (take 4 (drop at bs))) (omega (arith, length-take 4 (drop at bs), length-drop at bs)) (bytes-take 4 (drop at bs) (bytes-drop at bs fits)) refl

pub eight_back : (at : ℕ) (bs : List ℕ) → at + 8 ≤ length bs → AreBytes bs → to_le_bytes w64 (word_at w64 at bs) ≡ take 8 (drop at bs)
unfolding word_at
eight_back at bs le fits = le_bytes_8 (take 8 (drop at bs)) (from_le_bytes w64 (take 8 (drop at bs))) (omega (arith, length-take 8 (drop at bs), length-drop at bs)) (bytes-take 8 (drop at bs) (bytes-drop at bs fits)) refl

sum_of_eight : (a b c d e f g h : ℕ) → a < 256 → b < 256 → c < 256 → d < 256 → e < 256 → f < 256 → g < 256 → h < 256
    → a + b * 256 + c * 65536 + d * 16777216 + e * 4294967296 + f * 1099511627776 + g * 281474976710656 + h * 72057594037927936 < 2 ^ 64
sum_of_eight a b c d e f g h a' b' c' d' e' f' g' h' = omega arith

pub eight_fit : (bs : List ℕ) → AreBytes bs → from_le_bytes w64 bs < 2 ^ 64
eight_fit bs fits = sum_of_eight _ _ _ _ _ _ _ _ (fits 0) (fits 1) (fits 2) (fits 3) (fits 4) (fits 5) (fits 6) (fits 7)

pub signed_back : (at : ℕ) (bs : List ℕ) → at + 8 ≤ length bs → AreBytes bs → eight_bytes (cast_signed w64 (word_at w64 at bs)) ≡ take 8 (drop at bs)
unfolding word_at eight_bytes
signed_back at bs le fits =
    ap (to_le_bytes w64) (of_z-to_z w64 (from_le_bytes w64 (take 8 (drop at bs))) (eight_fit (take 8 (drop at bs)) (bytes-take 8 (drop at bs) (bytes-drop at bs fits))))
    ∙ eight_back at bs le fits

word_back : (bs : List ℕ) → 4 ≤ length bs → AreBytes bs → four_bytes (word (take 4 bs)) ≡ take 4 bs
unfolding four_bytes word
word_back bs le fits = le_bytes_4 (take 4 bs) (from_le_bytes w32 (take 4 bs)) (omega (arith, length-take 4 bs)) (bytes-take 4 bs fits) refl

long_back : (bs : List ℕ) → 8 ≤ length bs → AreBytes bs → eight_bytes (long (take 8 bs)) ≡ take 8 bs
unfolding eight_bytes long
long_back bs le fits =
    ap (to_le_bytes w64) (of_z-to_z w64 (from_le_bytes w64 (take 8 bs)) (eight_fit (take 8 bs) (bytes-take 8 bs fits)))
    ∙ le_bytes_8 (take 8 bs) (from_le_bytes w64 (take 8 bs)) (omega (arith, length-take 8 bs)) (bytes-take 8 bs fits) refl

pub fronts_words : (n : ℕ) (bs : List ℕ) → 4 * n ≤ length bs → AreBytes bs → Fronts (spelled_words (words n bs)) (4 * n) bs
unfolding spelled_words
fronts_words zero bs le fits = refl
fronts_words (suc n) bs le fits =
    fronts_then (four_bytes (word (take 4 bs))) (spelled_words (words n (drop 4 bs))) 4 (4 * n) (4 * suc n) bs (fronts_by _ 4 bs (word_back bs (omega arith) fits))
    (fronts_words n (drop 4 bs) (omega (arith, length-drop 4 bs)) (bytes-drop 4 bs fits)) (omega arith)

pub fronts_longs : (n : ℕ) (bs : List ℕ) → 8 * n ≤ length bs → AreBytes bs → Fronts (spelled_longs (longs n bs)) (8 * n) bs
unfolding spelled_longs
fronts_longs zero bs le fits = refl
fronts_longs (suc n) bs le fits =
    fronts_then (eight_bytes (long (take 8 bs))) (spelled_longs (longs n (drop 8 bs))) 8 (8 * n) (8 * suc n) bs (fronts_by _ 8 bs (long_back bs (omega arith) fits))
    (fronts_longs n (drop 8 bs) (omega (arith, length-drop 8 bs)) (bytes-drop 8 bs fits)) (omega arith)

-- ---- written and read

abbrev pub AreWords : List ℕ → Type 0
AreWords ns = (i : ℕ) → get_or ns i 0 < 2 ^ 32

word_four : (n : ℕ) → n < 2 ^ 32 → word (four_bytes n) ≡ n
unfolding word four_bytes
word_four n lt = from_le_bytes-to_le_bytes_4 n lt

pub long_eight : (z : ℤ) → FitsSigned w64 z → long (eight_bytes z) ≡ z
unfolding long eight_bytes
long_eight z fits = ap (cast_signed w64) (from_le_bytes-to_le_bytes_8 (cast_unsigned w64 z) (of_z_fits w64 z fits).fits) ∙ to_z-of_z w64 z fits

pub words_read : (ns rest : List ℕ) → AreWords ns → words (length ns) (spelled_words ns ++ rest) ≡ ns
unfolding spelled_words four_bytes
words_read [] rest fits = refl
words_read (n ∷ ns) rest fits = λ i. word_four n (fits 0) i ∷ words_read ns rest (λ j. fits (suc j)) i

pub longs_read : (zs : List ℤ) (rest : List ℕ) → AllByRecursion (FitsSigned w64) zs → longs (length zs) (spelled_longs zs ++ rest) ≡ zs
unfolding spelled_longs eight_bytes
longs_read [] rest fits = refl
longs_read (z ∷ zs) rest fits = λ i. long_eight z fits.0 i ∷ longs_read zs rest fits.1 i

pub length-spelled_words : (ns : List ℕ) → length (spelled_words ns) ≡ 4 * length ns
unfolding spelled_words four_bytes
length-spelled_words [] = refl
length-spelled_words (n ∷ ns) = let e = length-spelled_words ns in omega arith

pub length-spelled_longs : (zs : List ℤ) → length (spelled_longs zs) ≡ 8 * length zs
unfolding spelled_longs eight_bytes
length-spelled_longs [] = refl
length-spelled_longs (z ∷ zs) = let e = length-spelled_longs zs in omega arith
