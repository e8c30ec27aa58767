-- Bytes that open as an image are the bytes of the columns that are read from them.
use Rattle.std.proofs.Common.{◌≡◌, ◌∙◌, sym, refl, ap, ℕ, zero, suc, ◌+◌, ◌-◌, ◌*◌, ◌≤◌, true, List, [], ◌∷◌, ◌++◌, length, map, take, drop, arith, cond, mul-suc, Ok, Result}
use Rattle.std.specs.Prelude.{nat_le, ◌==◌}
use Rattle.std.specs.List.{flat_map, list_all}
use Rattle.std.specs.Int.{w16, w32, w64, to_le_bytes, cast_signed}
use Rattle.std.specs.Simd.{first_chunks}
use Rattle.std.specs.Cmp.Lexicographic.{bytes_decides}
use Rattle.std.proofs.lemmas.Bool.{and_parts, leb-true, eqb-true}
use Rattle.std.proofs.lemmas.List.{drop-drop, drop_all, take-append-drop, append_assoc, length-drop, length-take, length-append, length-map, take-append-le, drop-append-le, take_all}
use Rattle.sha2.specs.Sha256.{sha256}
use Rattle.dr_image.specs.declared.header.Header.{Header}
use Rattle.dr_image.specs.declared.image_error.ImageError.{ImageError}
use Rattle.dr_image.specs.declared.image_error.ImageError.TheVariants.{Truncated, BadMagic, BadVersion, BadLength}
use Rattle.dr_image.specs.Words.{word, words, longs, word_at, four_bytes, eight_bytes, spelled_words, spelled_longs}
use Rattle.dr_image.specs.Pieces.{pieces, ends_from, ends_fit}
use Rattle.dr_image.specs.Table.{Table}
use Rattle.dr_image.specs.Image.{joined, magic, bytes_of_column, data_of, head_of, bytes_of}
use Rattle.dr_image.specs.Layout.{Part, header_of, metrics_at, dims_at, values_in, texts_in, part_with, part_of, part_size, parts_of, parts_in, behind, parts_fill, metrics_of, column_in, read_table}
use Rattle.dr_image.specs.Opening.{headed, framed, is_version, is_length, counts_fit, columns_fill, is_dictionary, is_index}
use Rattle.dr_image.proofs.SpellingLemmas.{AreBytes, bytes-drop, Fronts, fronts_by, fronts_words, fronts_longs, two_back, four_back, eight_back, signed_back}
use Rattle.dr_image.proofs.PieceLemmas.{length-pieces}
use Rattle.dr_image.proofs.LayoutLemmas.{length-first_chunks, length-parts_in, length-metrics_in, times_seen, rollup_in, chunk_in, from_in, to_in}
use Rattle.dr_image.proofs.OpenLemmas.{passed_by, passed_last, goes_by, IsOpen}
use Rattle.dr_image.proofs.ReadingLemmas.{dims_seen}
use Rattle.dr_image.specs.Checked.{AreChecked}

-- ---- pieces

pub joined_pieces : {A : Type 0} (start : ℕ) (ends : List ℕ) (all : List A) → ends_fit start ends (length all) ≡ true → joined (pieces start ends all) ≡ drop start all
unfolding pieces ends_fit
joined_pieces start [] all fit = let e = eqb-true start (length all) fit in sym (drop_all start all (omega arith))
joined_pieces start (end ∷ ends) all fit =
    let p = and_parts _ _ fit in
    let le = leb-true start end p.0 in
    let on : drop (end - start) (drop start all) ≡ drop end all = drop-drop (end - start) start all ∙ ap (λ k. drop k all) (omega arith) in
    ap (λ ys. take (end - start) (drop start all) ++ ys) (joined_pieces end ends all p.1 ∙ sym on) ∙ take-append-drop (end - start) (drop start all)

last_end : (start : ℕ) (ends : List ℕ) (last : ℕ) → ends_fit start ends last ≡ true → start ≤ last
unfolding ends_fit
last_end start [] last fit = let e = eqb-true start last fit in omega arith
last_end start (end ∷ ends) last fit =
    let p = and_parts _ _ fit in
    let a = leb-true start end p.0 in
    let b = last_end end ends last p.1 in
    omega arith

pub ends_of_pieces : {A : Type 0} (start : ℕ) (ends : List ℕ) (all : List A) → ends_fit start ends (length all) ≡ true → ends_from start (pieces start ends all) ≡ ends
unfolding pieces ends_fit ends_from
ends_of_pieces start [] all fit = refl
ends_of_pieces start (end ∷ ends) all fit =
    let p = and_parts _ _ fit in
    let le = leb-true start end p.0 in
    let last = last_end end ends (length all) p.1 in
    let e : start + length (take (end - start) (drop start all)) ≡ end = omega (arith, length-take (end - start) (drop start all), length-drop start all) in
    (λ i. e i ∷ ends_from (e i) (pieces end ends all)) ∙ ap (λ ys. end ∷ ys) (ends_of_pieces end ends all p.1)

-- ---- what stands from a place to another

abbrev pub At : List ℕ → ℕ → ℕ → List ℕ → Type 0
At x a b bs = x ++ drop b bs ≡ drop a bs

pub at_then : (x y : List ℕ) (a b c : ℕ) (bs : List ℕ) → At x a b bs → At y b c bs → At (x ++ y) a c bs
at_then x y a b c bs first second = append_assoc x y (drop c bs) ∙ ap (λ z. x ++ z) second ∙ first

pub at_from : (x : List ℕ) (a k b : ℕ) (bs : List ℕ) → Fronts x k (drop a bs) → a + k ≡ b → At x a b bs
at_from x a k b bs front e = ap (λ n. x ++ drop n bs) (sym e) ∙ ap (λ z. x ++ z) (sym (drop-drop k a bs)) ∙ front

pub at_by : (x : List ℕ) (a k b : ℕ) (bs : List ℕ) → x ≡ take k (drop a bs) → a + k ≡ b → At x a b bs
at_by x a k b bs e sum = at_from x a k b bs (fronts_by x k (drop a bs) e) sum

pub length-words : (n : ℕ) (bs : List ℕ) → length (words n bs) ≡ n
length-words n bs = length-map (first_chunks 4 n bs) word ∙ length-first_chunks 4 n bs

-- ---- a dimension

abbrev bytes_in : ℕ → ℕ → Part → List ℕ
bytes_in v t p = four_bytes v ++ (four_bytes t ++ (spelled_words p.ends ++ (p.texts ++ (spelled_words p.numbers ++ (spelled_words p.list_ends ++ spelled_words p.rows)))))

column_bytes : (v t : ℕ) (p : Part) → length p.ends ≡ v → length p.texts ≡ t → is_dictionary p ≡ true → is_index p ≡ true → bytes_of_column (column_in p) ≡ bytes_in v t p
unfolding bytes_of_column
column_bytes v t p values texts dictionary index =
    let fit : ends_fit 0 p.ends (length p.texts) ≡ true = (and_parts _ _ dictionary).0 in
    let lists_fit : ends_fit 0 p.list_ends (length p.rows) ≡ true = (and_parts _ _ index).0 in
    let all : joined (pieces 0 p.ends p.texts) ≡ p.texts = joined_pieces 0 p.ends p.texts fit in
    let rows : joined (pieces 0 p.list_ends p.rows) ≡ p.rows = joined_pieces 0 p.list_ends p.rows lists_fit in
    let ends : ends_from 0 (pieces 0 p.ends p.texts) ≡ p.ends = ends_of_pieces 0 p.ends p.texts fit in
    let list_ends : ends_from 0 (pieces 0 p.list_ends p.rows) ≡ p.list_ends = ends_of_pieces 0 p.list_ends p.rows lists_fit in
    let count : length (pieces 0 p.ends p.texts) ≡ v = length-pieces 0 p.ends p.texts ∙ values in
    let size : length (joined (pieces 0 p.ends p.texts)) ≡ t = ap length all ∙ texts in
    λ i. four_bytes (count i) ++ (four_bytes (size i) ++ (spelled_words (ends i) ++ (all i ++ (spelled_words p.numbers ++ (spelled_words (list_ends i) ++ spelled_words (rows i))))))

part_behind : (v t n : ℕ) (bs : List ℕ) → AreBytes bs → 8 * v + t + 8 * n ≤ length bs
    → Fronts (spelled_words (part_with v t n bs).ends ++ ((part_with v t n bs).texts ++ (spelled_words (part_with v t n bs).numbers ++ (spelled_words (part_with v t n bs).list_ends ++ spelled_words (part_with v t n bs).rows)))) (8 * v + t + 8 * n) bs
part_behind v t n bs fits le =
    let p : Part = part_with v t n bs in
    let a : ℕ = 4 * v in
    let b : ℕ = 4 * v + t in
    let c : ℕ = 4 * v + t + 4 * n in
    let d : ℕ = 8 * v + t + 4 * n in
    let e : ℕ = 8 * v + t + 8 * n in
    let one : At (spelled_words p.ends) 0 a bs = fronts_words v bs (omega arith) fits in
    let two : At p.texts a b bs = at_by p.texts a t b bs refl refl in
    let three : At (spelled_words p.numbers) b c bs = at_from _ b (4 * n) c bs (fronts_words n (drop b bs) (omega (arith, length-drop b bs)) (bytes-drop b bs fits)) refl in
    let four : At (spelled_words p.list_ends) c d bs = at_from _ c (4 * v) d bs (fronts_words v (drop c bs) (omega (arith, length-drop c bs)) (bytes-drop c bs fits)) (omega arith) in
    let five : At (spelled_words p.rows) d e bs = at_from _ d (4 * n) e bs (fronts_words n (drop d bs) (omega (arith, length-drop d bs)) (bytes-drop d bs fits)) (omega arith) in
    at_then _ _ 0 a e bs one (at_then _ _ a b e bs two (at_then _ _ b c e bs three (at_then _ _ c d e bs four five)))

pub part_fronts : (n : ℕ) (bs : List ℕ) → AreBytes bs → part_size n bs + 32 ≤ length bs → is_dictionary (part_of n bs) ≡ true → is_index (part_of n bs) ≡ true
    → Fronts (bytes_of_column (column_in (part_of n bs))) (part_size n bs) bs
unfolding part_of part_size four_bytes
part_fronts n bs fits le dictionary index =
    let v : ℕ = values_in bs in
    let t : ℕ = texts_in bs in
    let k : ℕ = 8 * v + t + 8 * n in
    let p : Part = part_with v t n (drop 8 bs) in
    let size : 8 + 8 * v + t + 8 * n + 32 ≤ length bs = le in
    let texts : length p.texts ≡ t = omega (arith, length-take t (drop (4 * v) (drop 8 bs)), length-drop (4 * v) (drop 8 bs), length-drop 8 bs) in
    let is : bytes_of_column (column_in p) ≡ bytes_in v t p = column_bytes v t p (length-words v (drop 8 bs)) texts dictionary index in
    let rest : At (spelled_words p.ends ++ (p.texts ++ (spelled_words p.numbers ++ (spelled_words p.list_ends ++ spelled_words p.rows)))) 8 (8 + 8 * v + t + 8 * n) bs =
    at_from _ 8 k _ bs (part_behind v t n (drop 8 bs) (bytes-drop 8 bs fits) (omega (arith, length-drop 8 bs))) (omega arith) in
    let values : At (four_bytes v) 0 4 bs = at_by _ 0 4 4 bs (four_back 0 bs (omega arith) fits) refl in
    let sizes : At (four_bytes t) 4 8 bs = at_by _ 4 4 8 bs (four_back 4 bs (omega arith) fits) refl in
    let e : ℕ = 8 + 8 * v + t + 8 * n in
    let y : List ℕ = spelled_words p.ends ++ (p.texts ++ (spelled_words p.numbers ++ (spelled_words p.list_ends ++ spelled_words p.rows))) in
    ap (λ x. x ++ drop e bs) is ∙ at_then (four_bytes v) (four_bytes t ++ y) 0 4 e bs values (at_then (four_bytes t) y 4 8 e bs sizes rest)

-- ---- dimensions and metrics

pub record IsFilled (d n : ℕ) (bs : List ℕ) : Type 0 where
  pub is : flat_map bytes_of_column (map column_in (parts_of d n bs)) ++ behind d n bs ≡ bs
  pub left : length (behind d n bs) ≡ 32

pub parts_filled : (d n : ℕ) (bs : List ℕ) → AreBytes bs → parts_fill d n bs ≡ true → list_all is_dictionary (parts_of d n bs) ≡ true → list_all is_index (parts_of d n bs) ≡ true → IsFilled d n bs
unfolding parts_of behind parts_fill
parts_filled zero n bs fits fill dictionaries indices = record { is = refl; left = eqb-true _ _ fill }
parts_filled (suc d) n bs fits fill dictionaries indices =
    let k : ℕ = part_size n bs in
    let f = and_parts _ _ fill in
    let a = and_parts _ _ dictionaries in
    let b = and_parts _ _ indices in
    let front : Fronts (bytes_of_column (column_in (part_of n bs))) k bs = part_fronts n bs fits (leb-true _ _ f.0) a.0 b.0 in
    let rest = parts_filled d n (drop k bs) (bytes-drop k bs fits) f.1 a.1 b.1 in
    let x : List ℕ = bytes_of_column (column_in (part_of n bs)) in
    let y : List ℕ = flat_map bytes_of_column (map column_in (parts_of d n (drop k bs))) in
    record { is = append_assoc x y (behind d n (drop k bs)) ∙ ap (λ z. x ++ z) rest.is ∙ front; left = rest.left }

pub metrics_front : (m n : ℕ) (bs : List ℕ) → AreBytes bs → 8 * n * m ≤ length bs → Fronts (flat_map spelled_longs (metrics_of m n bs)) (8 * n * m) bs
unfolding metrics_of
metrics_front zero n bs fits le = let e : 8 * n * 0 ≡ 0 = omega arith in ap (λ k. drop k bs) e
metrics_front (suc m) n bs fits le =
    let e : 8 * n * suc m ≡ 8 * n * m + 8 * n = mul-suc (8 * n) m in
    let c : ℕ = 8 * n * m in
    let front = fronts_longs n bs (omega arith) fits in
    let rest : Fronts (flat_map spelled_longs (metrics_of m n (drop (8 * n) bs))) c (drop (8 * n) bs) = metrics_front m n (drop (8 * n) bs) (bytes-drop (8 * n) bs fits) (omega (arith, length-drop (8 * n) bs)) in
    at_then _ _ 0 (8 * n) (8 * n * suc m) bs front (at_from _ (8 * n) c _ bs rest (omega arith))

-- ---- the numbers in front

pub record IsHeaded (bytes : List ℕ) : Type 0 where
  pub marked : word_at w32 0 bytes ≡ magic
  pub version : word_at w16 4 bytes ≡ 1
  pub mark : word_at w16 6 bytes ≤ 1
  pub size : word_at w64 8 bytes ≡ length bytes
  pub long : 80 ≤ length bytes
  pub short : length bytes ≤ 1073741824
  pub counts : counts_fit (header_of bytes) ≡ true
  pub fills : columns_fill (header_of bytes) bytes ≡ true

abbrev got : Header → Result Header ImageError
got h = Ok h

header_given : (h g : Header) → got h ≡ got g → h ≡ g
header_given h g e = cc

record IsHead (bytes : List ℕ) (h : Header) : Type 0 where
  marked : word_at w32 0 bytes ≡ magic
  version : word_at w16 4 bytes ≡ 1
  mark : word_at w16 6 bytes ≤ 1
  size : word_at w64 8 bytes ≡ length bytes
  long : 80 ≤ length bytes
  short : length bytes ≤ 1073741824
  counts : counts_fit (header_of bytes) ≡ true
  is : header_of bytes ≡ h

head_by : (bytes : List ℕ) (h : Header) → headed bytes ≡ Ok h → IsHead bytes h
unfolding headed
head_by bytes h given =
    let a = passed_by Truncated (nat_le 16 (length bytes)) _ _ given in
    let b = passed_by BadMagic (word_at w32 0 bytes == magic) _ _ a.rest_is in
    let c = passed_by BadVersion (is_version bytes) _ _ b.rest_is in
    let d = passed_by Truncated (nat_le (word_at w64 8 bytes) (length bytes)) _ _ c.rest_is in
    let e = passed_by BadLength (is_length bytes) _ _ d.rest_is in
    let f = passed_by BadLength (counts_fit (header_of bytes)) _ _ e.rest_is in
    let version = and_parts _ _ c.passes in
    let size = and_parts _ _ e.passes in
    let bounds = and_parts _ _ size.1 in
    let l1 : word_at w64 8 bytes ≤ length bytes = leb-true _ _ d.passes in
    let l2 : length bytes ≤ word_at w64 8 bytes = leb-true _ _ size.0 in
    let l3 : 80 ≤ word_at w64 8 bytes = leb-true _ _ bounds.0 in
    let l4 : word_at w64 8 bytes ≤ 1073741824 = leb-true _ _ bounds.1 in
    record {
      marked = eqb-true _ _ b.passes;
      version = eqb-true _ _ version.0;
      mark = leb-true _ _ version.1;
      size = omega (arith, l1, l2);
      long = omega (arith, l1, l3);
      short = omega (arith, l2, l4);
      counts = f.passes;
      is = header_given _ _ f.rest_is;
    }

pub headed_by : (bytes : List ℕ) → framed bytes ≡ Ok tt → IsHeaded bytes
unfolding framed
headed_by bytes given =
    let w = goes_by _ _ _ given in
    let k = head_by bytes w.first w.first_is in
    record {
      marked = k.marked;
      version = k.version;
      mark = k.mark;
      size = k.size;
      long = k.long;
      short = k.short;
      counts = k.counts;
      fills = ap (λ (g : Header). columns_fill g bytes) k.is ∙ passed_last _ _ _ w.rest_is;
    }

mark_is : (n : ℕ) → n ≤ 1 → cond (n == 1) 1 0 ≡ n
mark_is zero le = refl
mark_is (suc zero) le = refl
mark_is (suc (suc n)) le = absurd (omega arith)

header_rollup : (bytes : List ℕ) → (header_of bytes).rollup ≡ (word_at w16 6 bytes == 1)
unfolding header_of
header_rollup bytes = refl

pub header_numbers : (bytes : List ℕ) → header_of bytes ≡ record { rollup = word_at w16 6 bytes == 1; chunk = cast_signed w64 (word_at w64 16 bytes); from = word_at w64 24 bytes; to = word_at w64 32 bytes; dims = word_at w16 40 bytes; metrics = word_at w16 42 bytes; rows = word_at w32 44 bytes }
unfolding header_of
header_numbers bytes = refl

pub head_at : (bytes : List ℕ) → AreBytes bytes → IsHeaded bytes → 80 + length (data_of (read_table bytes)) ≡ length bytes → At (head_of (read_table bytes)) 0 48 bytes
unfolding head_of
head_at bytes fits headed count =
    let t : Table = read_table bytes in
    let h : Header = header_of bytes in
    let n = header_numbers bytes in
    let long = headed.long in
    let mark : cond t.rollup 1 0 ≡ word_at w16 6 bytes = ap (λ b. cond b 1 0) (rollup_in bytes ∙ header_rollup bytes) ∙ mark_is (word_at w16 6 bytes) headed.mark in
    let size : 80 + length (data_of t) ≡ word_at w64 8 bytes = count ∙ sym headed.size in
    let chunk : t.chunk ≡ cast_signed w64 (word_at w64 16 bytes) = chunk_in bytes ∙ ap (λ (k : Header). k.chunk) n in
    let from : t.from ≡ word_at w64 24 bytes = from_in bytes ∙ ap (λ (k : Header). k.from) n in
    let to : t.to ≡ word_at w64 32 bytes = to_in bytes ∙ ap (λ (k : Header). k.to) n in
    let dims : length t.dims ≡ word_at w16 40 bytes = dims_seen bytes ∙ sym (length-parts_in bytes h refl) ∙ ap (λ (k : Header). k.dims) n in
    let metrics : length t.metrics ≡ word_at w16 42 bytes = sym (length-metrics_in bytes h refl) ∙ ap (λ (k : Header). k.metrics) n in
    let rows : length t.times ≡ word_at w32 44 bytes = times_seen bytes ∙ ap (λ (k : Header). k.rows) n in
    let is : head_of t ≡ to_le_bytes w32 (word_at w32 0 bytes) ++ (to_le_bytes w16 (word_at w16 4 bytes) ++ (to_le_bytes w16 (word_at w16 6 bytes) ++ (to_le_bytes w64 (word_at w64 8 bytes)
    ++ (eight_bytes (cast_signed w64 (word_at w64 16 bytes)) ++ (to_le_bytes w64 (word_at w64 24 bytes) ++ (to_le_bytes w64 (word_at w64 32 bytes)
    ++ (to_le_bytes w16 (word_at w16 40 bytes) ++ (to_le_bytes w16 (word_at w16 42 bytes) ++ to_le_bytes w32 (word_at w32 44 bytes))))))))) =
    λ i. to_le_bytes w32 (sym headed.marked i) ++ (to_le_bytes w16 (sym headed.version i) ++ (to_le_bytes w16 (mark i) ++ (to_le_bytes w64 (size i)
    ++ (eight_bytes (chunk i) ++ (to_le_bytes w64 (from i) ++ (to_le_bytes w64 (to i)
    ++ (to_le_bytes w16 (dims i) ++ (to_le_bytes w16 (metrics i) ++ to_le_bytes w32 (rows i))))))))) in
    let a : List ℕ = to_le_bytes w32 (word_at w32 0 bytes) in
    let b : List ℕ = to_le_bytes w16 (word_at w16 4 bytes) in
    let c : List ℕ = to_le_bytes w16 (word_at w16 6 bytes) in
    let d : List ℕ = to_le_bytes w64 (word_at w64 8 bytes) in
    let e : List ℕ = eight_bytes (cast_signed w64 (word_at w64 16 bytes)) in
    let f : List ℕ = to_le_bytes w64 (word_at w64 24 bytes) in
    let g : List ℕ = to_le_bytes w64 (word_at w64 32 bytes) in
    let i : List ℕ = to_le_bytes w16 (word_at w16 40 bytes) in
    let j : List ℕ = to_le_bytes w16 (word_at w16 42 bytes) in
    let k : List ℕ = to_le_bytes w32 (word_at w32 44 bytes) in
    let k_at : At k 44 48 bytes = at_by k 44 4 48 bytes (four_back 44 bytes (omega arith) fits) refl in
    let j_at : At (j ++ k) 42 48 bytes = at_then j k 42 44 48 bytes (at_by j 42 2 44 bytes (two_back 42 bytes (omega arith) fits) refl) k_at in
    let i_at : At (i ++ (j ++ k)) 40 48 bytes = at_then i (j ++ k) 40 42 48 bytes (at_by i 40 2 42 bytes (two_back 40 bytes (omega arith) fits) refl) j_at in
    let g_at : At (g ++ (i ++ (j ++ k))) 32 48 bytes = at_then g (i ++ (j ++ k)) 32 40 48 bytes (at_by g 32 8 40 bytes (eight_back 32 bytes (omega arith) fits) refl) i_at in
    let f_at : At (f ++ (g ++ (i ++ (j ++ k)))) 24 48 bytes = at_then f (g ++ (i ++ (j ++ k))) 24 32 48 bytes (at_by f 24 8 32 bytes (eight_back 24 bytes (omega arith) fits) refl) g_at in
    let e_at : At (e ++ (f ++ (g ++ (i ++ (j ++ k))))) 16 48 bytes = at_then e (f ++ (g ++ (i ++ (j ++ k)))) 16 24 48 bytes (at_by e 16 8 24 bytes (signed_back 16 bytes (omega arith) fits) refl) f_at in
    let d_at : At (d ++ (e ++ (f ++ (g ++ (i ++ (j ++ k)))))) 8 48 bytes = at_then d (e ++ (f ++ (g ++ (i ++ (j ++ k))))) 8 16 48 bytes (at_by d 8 8 16 bytes (eight_back 8 bytes (omega arith) fits) refl) e_at in
    let c_at : At (c ++ (d ++ (e ++ (f ++ (g ++ (i ++ (j ++ k))))))) 6 48 bytes = at_then c (d ++ (e ++ (f ++ (g ++ (i ++ (j ++ k)))))) 6 8 48 bytes (at_by c 6 2 8 bytes (two_back 6 bytes (omega arith) fits) refl) d_at in
    let b_at : At (b ++ (c ++ (d ++ (e ++ (f ++ (g ++ (i ++ (j ++ k)))))))) 4 48 bytes = at_then b (c ++ (d ++ (e ++ (f ++ (g ++ (i ++ (j ++ k))))))) 4 6 48 bytes (at_by b 4 2 6 bytes (two_back 4 bytes (omega arith) fits) refl) c_at in
    let a_at : At (a ++ (b ++ (c ++ (d ++ (e ++ (f ++ (g ++ (i ++ (j ++ k))))))))) 0 48 bytes = at_then a (b ++ (c ++ (d ++ (e ++ (f ++ (g ++ (i ++ (j ++ k)))))))) 0 4 48 bytes (at_by a 0 4 4 bytes (four_back 0 bytes (omega arith) fits) refl) b_at in
    ap (λ x. x ++ drop 48 bytes) is ∙ a_at

-- ---- all of it

pub record AreColumns (bytes : List ℕ) (rest : List ℕ) : Type 0 where
  pub is : data_of (read_table bytes) ++ rest ≡ drop 48 bytes
  pub left : length rest ≡ 32

pub columns_at : (bytes : List ℕ) → AreBytes bytes → IsHeaded bytes → AreChecked bytes → AreColumns bytes (behind (header_of bytes).dims (header_of bytes).rows (drop (dims_at (header_of bytes)) bytes))
unfolding data_of read_table
columns_at bytes fits headed checked =
    let h : Header = header_of bytes in
    let c : ℕ = 8 * h.rows * h.metrics in
    let d : ℕ = dims_at h in
    let p = and_parts _ _ headed.fills in
    let room : 48 + 8 * h.rows + c + 32 ≤ length bytes = leb-true (d + 32) (length bytes) p.0 in
    let filled : IsFilled h.dims h.rows (drop d bytes) = parts_filled h.dims h.rows (drop d bytes) (bytes-drop d bytes fits) p.1 checked.dictionaries checked.indices in
    let times : At (spelled_longs (longs h.rows (drop 48 bytes))) 48 (metrics_at h) bytes =
    at_from _ 48 (8 * h.rows) (metrics_at h) bytes (fronts_longs h.rows (drop 48 bytes) (omega (arith, length-drop 48 bytes)) (bytes-drop 48 bytes fits)) refl in
    let metrics : At (flat_map spelled_longs (metrics_of h.metrics h.rows (drop (metrics_at h) bytes))) (metrics_at h) d bytes =
    at_from _ (metrics_at h) c d bytes (metrics_front h.metrics h.rows (drop (metrics_at h) bytes) (bytes-drop (metrics_at h) bytes fits) (omega (arith, length-drop (48 + 8 * h.rows) bytes))) refl in
    let x : List ℕ = spelled_longs (longs h.rows (drop 48 bytes)) in
    let y : List ℕ = flat_map spelled_longs (metrics_of h.metrics h.rows (drop (metrics_at h) bytes)) in
    let z : List ℕ = flat_map bytes_of_column (map column_in (parts_in bytes)) in
    let rest : List ℕ = behind h.dims h.rows (drop d bytes) in
    record {
      is = append_assoc x (y ++ z) rest ∙ ap (λ k. x ++ k) (append_assoc y z rest ∙ ap (λ k. y ++ k) filled.is ∙ metrics) ∙ times;
      left = filled.left;
    }

pub seam : (xs ys : List ℕ) (n : ℕ) → length (xs ++ ys) ≡ n → length ys ≡ 32 → (take (n - 32) (xs ++ ys) ≡ xs) × (drop (n - 32) (xs ++ ys) ≡ ys)
seam xs ys n all last =
    let e : n - 32 ≡ length xs = omega (arith, length-append xs ys) in (
      ap (λ k. take k (xs ++ ys)) e ∙ take-append-le (length xs) xs ys (omega arith) ∙ take_all (length xs) xs (omega arith),
      ap (λ k. drop k (xs ++ ys)) e ∙ drop-append-le (length xs) xs ys (omega arith) ∙ ap (λ k. k ++ ys) (drop_all (length xs) xs (omega arith)),
    )

pub whole : (bytes : List ℕ) → AreBytes bytes → IsOpen bytes → bytes ≡ bytes_of (read_table bytes)
unfolding bytes_of
whole bytes fits opens =
    let headed = headed_by bytes opens.frame in
    let long = headed.long in
    let t : Table = read_table bytes in
    let rest : List ℕ = behind (header_of bytes).dims (header_of bytes).rows (drop (dims_at (header_of bytes)) bytes) in
    let columns : AreColumns bytes rest = columns_at bytes fits headed opens.checked in
    let left = columns.left in
    let size : length (data_of t) + 32 ≡ length bytes - 48 = omega (arith, length-append (data_of t) rest, ap length columns.is, length-drop 48 bytes) in
    let head : At (head_of t) 0 48 bytes = head_at bytes fits headed (omega arith) in
    let all : (head_of t ++ data_of t) ++ rest ≡ bytes = append_assoc (head_of t) (data_of t) rest ∙ ap (λ k. head_of t ++ k) columns.is ∙ head in
    let s = seam (head_of t ++ data_of t) rest (length bytes) (ap length all) left in
    let body : take (length bytes - 32) bytes ≡ head_of t ++ data_of t = ap (take (length bytes - 32)) (sym all) ∙ s.0 in
    let last : drop (length bytes - 32) bytes ≡ rest = ap (drop (length bytes - 32)) (sym all) ∙ s.1 in
    let digest : drop (length bytes - 32) bytes ≡ sha256 (take (length bytes - 32) bytes) = (bytes_decides (drop (length bytes - 32) bytes) (sha256 (take (length bytes - 32) bytes))).0 opens.undamaged in
    sym all ∙ ap (λ k. (head_of t ++ data_of t) ++ k) (sym last ∙ digest ∙ ap sha256 body)
