-- The columns that are read from the bytes of columns are these columns.
use Rattle.std.proofs.Common.{◌≡◌, ◌∙◌, sym, refl, ap, ℕ, ℤ, zero, suc, ◌+◌, ◌-◌, ◌*◌, ◌^◌, ◌<◌, ◌≤◌, true, FitsSigned, List, [], ◌∷◌, ◌++◌, length, map, take, drop, arith, mul-suc, lit<}
use Rattle.std.specs.List.{flat_map, AllByRecursion}
use Rattle.std.specs.Int.{w32, w64, to_le_bytes, from_le_bytes}
use Rattle.std.proofs.lemmas.Nat.{from_le_bytes-to_le_bytes_4}
use Rattle.std.proofs.lemmas.Bool.{and_from, le-leb, eq-eqb}
use Rattle.std.proofs.lemmas.List.{length-append, append_assoc, append-nil, drop-drop, drop_all, take_all, take-append-le, drop-append-le}
use Rattle.dr_image.specs.Words.{words, long, longs, word_at, four_bytes, spelled_words, spelled_longs}
use Rattle.dr_image.specs.Pieces.{pieces, ends_from, ends_fit}
use Rattle.dr_image.specs.Table.{Column}
use Rattle.dr_image.specs.Image.{joined, bytes_of_column}
use Rattle.dr_image.specs.Layout.{Part, values_in, texts_in, part_with, part_of, part_size, parts_of, parts_fill, metrics_of}
use Rattle.dr_image.proofs.SpellingLemmas.{AreWords, words_read, longs_read, length-spelled_words, length-spelled_longs}

-- ---- pieces

pub pieces_of_ends : {A : Type 0} (start : ℕ) (xss : List (List A)) (all : List A) → drop start all ≡ joined xss → pieces start (ends_from start xss) all ≡ xss
unfolding pieces ends_from
pieces_of_ends start [] all at = refl
pieces_of_ends start (xs ∷ xss) all at =
    let e : start + length xs - start ≡ length xs = omega arith in
    let here : take (start + length xs - start) (drop start all) ≡ xs =
    (λ i. take (e i) (at i)) ∙ take-append-le (length xs) xs (joined xss) (omega arith) ∙ take_all (length xs) xs (omega arith) in
    let rest : drop (start + length xs) all ≡ joined xss =
    sym (drop-drop (length xs) start all) ∙ ap (drop (length xs)) at ∙ drop-append-le (length xs) xs (joined xss) (omega arith) ∙ ap (λ k. k ++ joined xss) (drop_all (length xs) xs (omega arith)) in
    let more = pieces_of_ends (start + length xs) xss all rest in
    λ i. here i ∷ more i

pub ends_of_fit : {A : Type 0} (start last : ℕ) (xss : List (List A)) → start + length (joined xss) ≡ last → ends_fit start (ends_from start xss) last ≡ true
unfolding ends_fit ends_from
ends_of_fit start last [] e = eq-eqb start last (omega (arith, e))
ends_of_fit start last (xs ∷ xss) e =
    and_from _ _ (le-leb start (start + length xs) (omega arith)) (ends_of_fit (start + length xs) last xss (omega (arith, e, length-append xs (joined xss))))

pub length-ends : {A : Type 0} (start : ℕ) (xss : List (List A)) → length (ends_from start xss) ≡ length xss
unfolding ends_from
length-ends start [] = refl
length-ends start (xs ∷ xss) = ap suc (length-ends (start + length xs) xss)

pub ends_words : {A : Type 0} (start : ℕ) (xss : List (List A)) → start + length (joined xss) < 2 ^ 32 → AreWords (ends_from start xss)
unfolding ends_from
ends_words start [] few i = lit< tt
ends_words start (xs ∷ xss) few zero = omega (arith, few, length-append xs (joined xss))
ends_words start (xs ∷ xss) few (suc i) = ends_words (start + length xs) xss (omega (arith, few, length-append xs (joined xss))) i

-- ---- a dimension

-- what a dimension of n rows has to be so that it can be written
pub record IsSpelled (n : ℕ) (c : Column) : Type 0 where
  pub values : length c.dictionary < 2 ^ 32
  pub texts : length (joined c.dictionary) < 2 ^ 32
  pub rows : n < 2 ^ 32
  pub numbers : AreWords c.numbers
  pub listed : AreWords (joined c.lists)
  pub long : length c.numbers ≡ n
  pub all_rows : length (joined c.lists) ≡ n
  pub lists : length c.lists ≡ length c.dictionary

abbrev pub part_for : Column → Part
part_for c = record { ends = ends_from 0 c.dictionary; texts = joined c.dictionary; numbers = c.numbers; list_ends = ends_from 0 c.lists; rows = joined c.lists }

skip : (k : ℕ) (xs ys rest : List ℕ) → k ≡ length xs → drop k ((xs ++ ys) ++ rest) ≡ ys ++ rest
skip k xs ys rest e =
    ap (drop k) (append_assoc xs ys rest) ∙ ap (λ m. drop m (xs ++ (ys ++ rest))) e ∙ drop-append-le (length xs) xs (ys ++ rest) (omega arith) ∙ ap (λ z. z ++ (ys ++ rest)) (drop_all (length xs) xs (omega arith))

pub skip_on : (a k b : ℕ) (z xs ys rest : List ℕ) → drop a z ≡ (xs ++ ys) ++ rest → k ≡ length xs → a + k ≡ b → drop b z ≡ ys ++ rest
skip_on a k b z xs ys rest at e sum = ap (λ m. drop m z) (sym sum) ∙ sym (drop-drop k a z) ∙ ap (drop k) at ∙ skip k xs ys rest e

first : (k : ℕ) (xs ys rest : List ℕ) → k ≡ length xs → take k ((xs ++ ys) ++ rest) ≡ xs
first k xs ys rest e =
    ap (take k) (append_assoc xs ys rest) ∙ ap (λ m. take m (xs ++ (ys ++ rest))) e ∙ take-append-le (length xs) xs (ys ++ rest) (omega arith) ∙ take_all (length xs) xs (omega arith)

words_first : (k : ℕ) (ns ys rest : List ℕ) → AreWords ns → k ≡ length ns → words k ((spelled_words ns ++ ys) ++ rest) ≡ ns
words_first k ns ys rest fits e = ap (words k) (append_assoc (spelled_words ns) ys rest) ∙ ap (λ m. words m (spelled_words ns ++ (ys ++ rest))) e ∙ words_read ns (ys ++ rest) fits

four : (k : ℕ) (ns : List ℕ) → k ≡ length ns → 4 * k ≡ length (spelled_words ns)
four k ns e = omega (arith, e, length-spelled_words ns)

pub record IsPart (n v t : ℕ) (z rest : List ℕ) (p : Part) : Type 0 where
  pub is : part_with v t n z ≡ p
  pub behind_it : drop (8 * v + t + 8 * n) z ≡ rest

abbrev body_of : Part → List ℕ
body_of p = spelled_words p.ends ++ (p.texts ++ (spelled_words p.numbers ++ (spelled_words p.list_ends ++ spelled_words p.rows)))

part_read : (n v t : ℕ) (p : Part) (rest : List ℕ) → AreWords p.ends → AreWords p.numbers → AreWords p.list_ends → AreWords p.rows
    → v ≡ length p.ends → t ≡ length p.texts → n ≡ length p.numbers → v ≡ length p.list_ends → n ≡ length p.rows → IsPart n v t (body_of p ++ rest) rest p
part_read n v t p rest w1 w2 w3 w4 l1 l2 l3 l4 l5 =
    let b4 : List ℕ = spelled_words p.rows in
    let b3 : List ℕ = spelled_words p.list_ends ++ b4 in
    let b2 : List ℕ = spelled_words p.numbers ++ b3 in
    let b1 : List ℕ = p.texts ++ b2 in
    let z : List ℕ = (spelled_words p.ends ++ b1) ++ rest in
    let a : ℕ = 4 * v in
    let b : ℕ = 4 * v + t in
    let c : ℕ = 4 * v + t + 4 * n in
    let d : ℕ = 8 * v + t + 4 * n in
    let e : ℕ = 8 * v + t + 8 * n in
    let at_a : drop a z ≡ b1 ++ rest = skip a (spelled_words p.ends) b1 rest (four v p.ends l1) in
    let at_b : drop b z ≡ b2 ++ rest = skip_on a t b z p.texts b2 rest at_a l2 refl in
    let at_c : drop c z ≡ b3 ++ rest = skip_on b (4 * n) c z (spelled_words p.numbers) b3 rest at_b (four n p.numbers l3) refl in
    let at_d : drop d z ≡ b4 ++ rest = skip_on c (4 * v) d z (spelled_words p.list_ends) b4 rest at_c (four v p.list_ends l4) (omega arith) in
    let whole : b4 ++ rest ≡ (b4 ++ []) ++ rest = ap (λ x. x ++ rest) (sym (append-nil b4)) in
    let at_e : drop e z ≡ rest = skip_on d (4 * n) e z b4 [] rest (at_d ∙ whole) (four n p.rows l5) (omega arith) in
    let ends : words v z ≡ p.ends = words_first v p.ends b1 rest w1 l1 in
    let texts : take t (drop a z) ≡ p.texts = ap (take t) at_a ∙ first t p.texts b2 rest l2 in
    let numbers : words n (drop b z) ≡ p.numbers = ap (words n) at_b ∙ words_first n p.numbers b3 rest w2 l3 in
    let list_ends : words v (drop c z) ≡ p.list_ends = ap (words v) at_c ∙ words_first v p.list_ends b4 rest w3 l4 in
    let rows : words n (drop d z) ≡ p.rows = ap (words n) (at_d ∙ whole) ∙ words_first n p.rows [] rest w4 l5 in
    record { is = λ i. record { ends = ends i; texts = texts i; numbers = numbers i; list_ends = list_ends i; rows = rows i }; behind_it = at_e }

pub record IsColumn (n : ℕ) (c : Column) (rest : List ℕ) : Type 0 where
  pub is : part_of n (bytes_of_column c ++ rest) ≡ part_for c
  pub behind_it : drop (part_size n (bytes_of_column c ++ rest)) (bytes_of_column c ++ rest) ≡ rest
  pub size : part_size n (bytes_of_column c ++ rest) ≡ 8 + 8 * length c.dictionary + length (joined c.dictionary) + 8 * n

four_read : (n : ℕ) → n < 2 ^ 32 → from_le_bytes w32 (to_le_bytes w32 n) ≡ n
four_read n lt = from_le_bytes-to_le_bytes_4 n lt

values_read : (c : Column) (rest : List ℕ) → length c.dictionary < 2 ^ 32 → values_in (bytes_of_column c ++ rest) ≡ length c.dictionary
unfolding bytes_of_column four_bytes word_at
values_read c rest lt = four_read (length c.dictionary) lt

texts_read : (c : Column) (rest : List ℕ) → length (joined c.dictionary) < 2 ^ 32 → texts_in (bytes_of_column c ++ rest) ≡ length (joined c.dictionary)
unfolding bytes_of_column four_bytes word_at
texts_read c rest lt = four_read (length (joined c.dictionary)) lt

body_read : (c : Column) (rest : List ℕ) → drop 8 (bytes_of_column c ++ rest) ≡ body_of (part_for c) ++ rest
unfolding bytes_of_column four_bytes
body_read c rest = refl

pub column_read : (n : ℕ) (c : Column) (rest : List ℕ) → IsSpelled n c → IsColumn n c rest
unfolding part_of part_size
column_read n c rest spelled =
    let z : List ℕ = bytes_of_column c ++ rest in
    let p : Part = part_for c in
    let v : ℕ = length c.dictionary in
    let t : ℕ = length (joined c.dictionary) in
    let texts = spelled.texts in
    let all = spelled.all_rows in
    let rows = spelled.rows in
    let values : values_in z ≡ v = values_read c rest spelled.values in
    let sizes : texts_in z ≡ t = texts_read c rest texts in
    let body : drop 8 z ≡ body_of p ++ rest = body_read c rest in
    let got : IsPart n v t (body_of p ++ rest) rest p =
    part_read n v t p rest (ends_words 0 c.dictionary (omega (arith, texts))) spelled.numbers (ends_words 0 c.lists (omega (arith, all, rows))) spelled.listed
    (sym (length-ends 0 c.dictionary)) refl (sym spelled.long) (sym (length-ends 0 c.lists ∙ spelled.lists)) (sym all) in
    let size : 8 + 8 * values_in z + texts_in z + 8 * n ≡ 8 + 8 * v + t + 8 * n = λ i. 8 + 8 * values i + sizes i + 8 * n in
    let sum : 8 + (8 * v + t + 8 * n) ≡ 8 + 8 * v + t + 8 * n = omega arith in
    record {
      is = (λ i. part_with (values i) (sizes i) n (body i)) ∙ got.is;
      behind_it = ap (λ k. drop k z) (size ∙ sym sum) ∙ sym (drop-drop (8 * v + t + 8 * n) 8 z) ∙ ap (drop (8 * v + t + 8 * n)) body ∙ got.behind_it;
      size = size;
    }

-- ---- all dimensions, and the metrics

pub record AreParts (n : ℕ) (cs : List Column) (rest : List ℕ) : Type 0 where
  pub are : parts_of (length cs) n (flat_map bytes_of_column cs ++ rest) ≡ map part_for cs
  pub fill : parts_fill (length cs) n (flat_map bytes_of_column cs ++ rest) ≡ true

pub length-column : (n : ℕ) (c : Column) → length c.numbers ≡ n → length (joined c.lists) ≡ n → length c.lists ≡ length c.dictionary → length (bytes_of_column c) ≡ 8 + 8 * length c.dictionary + length (joined c.dictionary) + 8 * n
unfolding bytes_of_column four_bytes
length-column n c long all lists =
    let e1 : List ℕ = spelled_words (ends_from 0 c.dictionary) in
    let e2 : List ℕ = spelled_words (ends_from 0 c.lists) in
    let r : List ℕ = spelled_words (joined c.lists) in
    let ns : List ℕ = spelled_words c.numbers in
    let ds : List ℕ = joined c.dictionary in
    omega (
      arith,
      long,
      all,
      lists,
      length-append e1 (ds ++ (ns ++ (e2 ++ r))),
      length-append ds (ns ++ (e2 ++ r)),
      length-append ns (e2 ++ r),
      length-append e2 r,
      length-spelled_words (ends_from 0 c.dictionary),
      length-spelled_words (ends_from 0 c.lists),
      length-spelled_words (joined c.lists),
      length-spelled_words c.numbers,
      length-ends 0 c.dictionary,
      length-ends 0 c.lists,
    )

pub parts_read : (n : ℕ) (cs : List Column) (rest : List ℕ) → AllByRecursion (IsSpelled n) cs → length rest ≡ 32 → AreParts n cs rest
unfolding parts_of parts_fill
parts_read n [] rest all last = record { are = refl; fill = eq-eqb (length rest) 32 last }
parts_read n (c ∷ cs) rest all last =
    let y : List ℕ = flat_map bytes_of_column cs in
    let z : List ℕ = (bytes_of_column c ++ y) ++ rest in
    let x : List ℕ = bytes_of_column c ++ (y ++ rest) in
    let e : z ≡ x = append_assoc (bytes_of_column c) y rest in
    let one : IsColumn n c (y ++ rest) = column_read n c (y ++ rest) all.0 in
    let more : AreParts n cs rest = parts_read n cs rest all.1 last in
    let here : part_of n z ≡ part_for c = ap (part_of n) e ∙ one.is in
    let on : drop (part_size n z) z ≡ y ++ rest = (λ i. drop (part_size n (e i)) (e i)) ∙ one.behind_it in
    let size : part_size n z ≡ 8 + 8 * length c.dictionary + length (joined c.dictionary) + 8 * n = ap (part_size n) e ∙ one.size in
    let room : part_size n z + 32 ≤ length z = omega (arith, size, length-column n c all.0.long all.0.all_rows all.0.lists, ap length e, length-append (bytes_of_column c) (y ++ rest), length-append y rest, last) in
    record {
      are = (λ i. here i ∷ parts_of (length cs) n (on i)) ∙ ap (λ k. part_for c ∷ k) more.are;
      fill = and_from _ _ (le-leb _ _ room) (ap (parts_fill (length cs) n) on ∙ more.fill);
    }

pub metrics_read : (n : ℕ) (zss : List (List ℤ)) (rest : List ℕ) → AllByRecursion (λ zs. (length zs ≡ n) × AllByRecursion (FitsSigned w64) zs) zss
    → (metrics_of (length zss) n (flat_map spelled_longs zss ++ rest) ≡ zss) × (drop (8 * n * length zss) (flat_map spelled_longs zss ++ rest) ≡ rest)
unfolding metrics_of
metrics_read n [] rest all = (refl, (let e : 8 * n * 0 ≡ 0 = omega arith in ap (λ k. drop k rest) e))
metrics_read n (zs ∷ zss) rest all =
    let y : List ℕ = flat_map spelled_longs zss in
    let z : List ℕ = (spelled_longs zs ++ y) ++ rest in
    let long = all.0.0 in
    let size : 8 * n ≡ length (spelled_longs zs) = omega (arith, long, length-spelled_longs zs) in
    let here : longs n z ≡ zs = (λ i. longs (sym long i) (append_assoc (spelled_longs zs) y rest i)) ∙ longs_read zs (y ++ rest) all.0.1 in
    let on : drop (8 * n) z ≡ y ++ rest = skip (8 * n) (spelled_longs zs) y rest size in
    let more = metrics_read n zss rest all.1 in
    let sum : 8 * n + 8 * n * length zss ≡ 8 * n * suc (length zss) = (let m = mul-suc (8 * n) (length zss) in omega (arith, m)) in (
      (λ i. here i ∷ metrics_of (length zss) n (on i)) ∙ ap (λ k. zs ∷ k) more.0,
      ap (λ k. drop k z) (sym sum) ∙ sym (drop-drop (8 * n * length zss) (8 * n) z) ∙ ap (drop (8 * n * length zss)) on ∙ more.1,
    )
