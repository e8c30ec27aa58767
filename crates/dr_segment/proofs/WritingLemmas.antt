-- Numbers and columns, written one behind the other.
use Rattle.std.proofs.Common.{◌≡◌, ◌∙◌, sym, refl, ap, subst, ℕ, ℤ, All, zero, suc, ◌+◌, ◌*◌, ◌<◌, ◌≤◌, ◌%◌, ◌/◌, List, [], ◌∷◌, ◌++◌, map, length, get_or, take, arith}
use Rattle.std.specs.List.{flat_map, range_with_len}
use Rattle.std.proofs.lemmas.List.{append-nil, append_assoc, length-append, length-map, get_or-map, flat_map_more, take_more, take_all, map_more}
use Rattle.std.proofs.lemmas.List.Concat.{flat_map-append}
use Rattle.dr_image.specs.Words.{four_bytes, eight_bytes, spelled_words, spelled_longs}
use Rattle.dr_image.specs.Pieces.{ends_from}
use Rattle.std.specs.Int.{w16, w32, w64, to_le_bytes}
use Rattle.sha2.specs.Sha256.{sha256}
use Rattle.sha2.proofs.Facts256.{length-sha256}
use Rattle.std.proofs.lemmas.List.Folds.{length-flat_map-take}
use Rattle.dr_image.proofs.DecodingLemmas.{length-column as column_length}
use Rattle.dr_image.proofs.SpellingLemmas.{length-spelled_longs}
use Rattle.dr_segment.specs.declared.dimension.Dimension.{Dimension}
use Rattle.dr_segment.specs.Tables.{column_with, column_seen}
use Rattle.dr_segment.proofs.CountingLemmas.{joined_long, length-lists}
use Rattle.dr_base.specs.declared.row.Row.{Row}
use Rattle.std.specs.Prelude.{if◌then◌else◌}
use Rattle.dr_segment.specs.declared.head.Head.{Head}
use Rattle.dr_segment.specs.Heads.{two_bytes, wide_bytes, head_bytes}
use Rattle.dr_image.specs.Sealed.{Sealed}
use Rattle.dr_image.specs.Table.{Column, Table}
use Rattle.dr_image.specs.Image.{joined, bytes_of_column, head_of, data_of, bytes_of, table_of, image, magic, with_digest}
use Rattle.dr_image.proofs.EncodedLemmas.{length-head}

-- a number, of which the low bytes are written
pub low_bytes : (n : ℕ) → four_bytes (n % 4294967296) ≡ four_bytes n
unfolding four_bytes
low_bytes n =
    let a : n % 4294967296 % 256 ≡ n % 256 = omega arith in
    let b : n % 4294967296 / 256 % 256 ≡ n / 256 % 256 = omega arith in
    let c : n % 4294967296 / 65536 % 256 ≡ n / 65536 % 256 = omega arith in
    let d : n % 4294967296 / 16777216 % 256 ≡ n / 16777216 % 256 = omega arith in
    λ i. a i ∷ b i ∷ c i ∷ d i ∷ []

-- one item more behind those that were written
pub one_more : {X : Type 0} (f : X → List ℕ) (base out : List ℕ) (xs : List X) (i : ℕ) (x : X) → i < length xs → x ≡ get_or xs i x
    → out ≡ base ++ flat_map f (take i xs) → out ++ f x ≡ base ++ flat_map f (take (i + 1) xs)
one_more f base out xs i x lt is so_far =
    ap (λ k. k ++ f x) so_far ∙ flat_map_more f base (take i xs) x ∙ ap (λ k. base ++ flat_map f k) (ap (λ y. take i xs ++ y ∷ []) is ∙ sym (take_more xs i x lt))

pub all_of_them : {X : Type 0} (f : X → List ℕ) (base out : List ℕ) (xs : List X) (i : ℕ) → length xs ≤ i → out ≡ base ++ flat_map f (take i xs) → out ≡ base ++ flat_map f xs
all_of_them f base out xs i le so_far = so_far ∙ ap (λ k. base ++ flat_map f k) (take_all i xs le)

pub none_yet : (base : List ℕ) → base ≡ base ++ []
none_yet base = sym (append-nil base)

pub words_by : (ns : List ℕ) → spelled_words ns ≡ flat_map four_bytes ns
unfolding spelled_words
words_by ns = refl

pub longs_by : (zs : List ℤ) → spelled_longs zs ≡ flat_map eight_bytes zs
unfolding spelled_longs
longs_by zs = refl

-- the items of a list, each by a part of it
pub flat_map-map : {X Y : Type 0} (g : X → Y) (f : Y → List ℕ) (xs : List X) → flat_map f (map g xs) ≡ flat_map (λ x. f (g x)) xs
flat_map-map g f [] = refl
flat_map-map g f (x ∷ xs) = ap (λ k. f (g x) ++ k) (flat_map-map g f xs)

pub low_of_many : (n : ℕ) → four_bytes (n % 18446744073709551616) ≡ four_bytes n
unfolding four_bytes
low_of_many n =
    let a : n % 18446744073709551616 % 256 ≡ n % 256 = omega arith in
    let b : n % 18446744073709551616 / 256 % 256 ≡ n / 256 % 256 = omega arith in
    let c : n % 18446744073709551616 / 65536 % 256 ≡ n / 65536 % 256 = omega arith in
    let d : n % 18446744073709551616 / 16777216 % 256 ≡ n / 16777216 % 256 = omega arith in
    λ i. a i ∷ b i ∷ c i ∷ d i ∷ []

pub range_more : (a n : ℕ) → range_with_len a (n + 1) ≡ range_with_len a n ++ (a + n) ∷ []
range_more a zero = let e : a ≡ a + 0 = omega arith in ap (λ k. k ∷ []) e
range_more a (suc n) = let e : a + 1 + n ≡ a + suc n = omega arith in let f : suc n + 1 ≡ suc (n + 1) = omega arith in ap (range_with_len a) f ∙ ap (λ k. a ∷ k) (range_more (a + 1) n ∙ ap (λ k. range_with_len (a + 1) n ++ k ∷ []) e)

-- ---- ends

length-joined : {A : Type 0} (xss : List (List A)) (xs : List A) → length (joined (xss ++ xs ∷ [])) ≡ length (joined xss) + length xs
length-joined xss xs = ap length (flat_map-append (λ k. k) xss (xs ∷ [])) ∙ length-append (joined xss) (xs ++ []) ∙ ap (λ k. length (joined xss) + length k) (append-nil xs)

ends_more : {A : Type 0} (start : ℕ) (xss : List (List A)) (xs : List A) → ends_from start (xss ++ xs ∷ []) ≡ ends_from start xss ++ (start + length (joined xss) + length xs) ∷ []
unfolding ends_from
ends_more start [] xs = let e : start + length xs ≡ start + 0 + length xs = omega arith in ap (λ k. k ∷ []) e
ends_more start (ys ∷ xss) xs =
    let e : start + length ys + length (joined xss) + length xs ≡ start + length (ys ++ joined xss) + length xs = omega (arith, length-append ys (joined xss)) in
    ap (λ k. (start + length ys) ∷ k) (ends_more (start + length ys) xss xs ∙ ap (λ k. ends_from (start + length ys) xss ++ k ∷ []) e)

-- the lists so far have been counted, and their ends written
pub record EndsSoFar {A : Type 0} (base out : List ℕ) (xss : List (List A)) (end : ℕ) : Type 0 where
  pub written : out ≡ base ++ spelled_words (ends_from 0 xss)
  pub counted : end ≡ length (joined xss) % 18446744073709551616

pub counted_more : {A : Type 0} (xss : List (List A)) (xs : List A) (end next : ℕ) → end ≡ length (joined xss) % 18446744073709551616 → next ≡ (end + length xs) % 18446744073709551616 → next ≡ length (joined (xss ++ xs ∷ [])) % 18446744073709551616
counted_more xss xs end next counted adds =
    let e = length-joined xss xs in
    omega arith

pub ends_so_far : {A : Type 0} (base out : List ℕ) (xss : List (List A)) (xs : List A) (end next : ℕ) → EndsSoFar base out xss end → next ≡ (end + length xs) % 18446744073709551616
    → EndsSoFar base (out ++ four_bytes next) (xss ++ xs ∷ []) next
unfolding spelled_words
ends_so_far base out xss xs end next so_far adds =
    let counted = counted_more xss xs end next so_far.counted adds in
    let total : 0 + length (joined xss) + length xs ≡ length (joined (xss ++ xs ∷ [])) = omega (arith, length-joined xss xs) in
    let last : four_bytes next ≡ four_bytes (0 + length (joined xss) + length xs) = ap four_bytes counted ∙ low_of_many (length (joined (xss ++ xs ∷ []))) ∙ ap four_bytes (sym total) in
    record {
      written = (λ i. so_far.written i ++ last i) ∙ flat_map_more four_bytes base (ends_from 0 xss) (0 + length (joined xss) + length xs) ∙ ap (λ k. base ++ flat_map four_bytes k) (sym (ends_more 0 xss xs));
      counted = counted;
    }

pub ends_none : {A : Type 0} (base : List ℕ) → EndsSoFar {A = A} base base [] 0
unfolding spelled_words ends_from
ends_none base = record { written = none_yet base; counted = refl }

pub ends_all : {A X : Type 0} (f : X → List A) (base out : List ℕ) (xs : List X) (i end : ℕ) → length xs ≤ i → EndsSoFar base out (map f (take i xs)) end → out ≡ base ++ spelled_words (ends_from 0 (map f xs))
ends_all f base out xs i end le so_far = so_far.written ∙ ap (λ k. base ++ spelled_words (ends_from 0 (map f k))) (take_all i xs le)

-- ---- a dimension

pub dimension_by : (c : Column) (base a b d e f g h : List ℕ) (n t : ℕ) → n ≡ length c.dictionary → t ≡ length (joined c.dictionary) % 18446744073709551616
    → a ≡ base ++ four_bytes n → b ≡ a ++ four_bytes t → d ≡ b ++ spelled_words (ends_from 0 c.dictionary) → e ≡ d ++ joined c.dictionary → f ≡ e ++ spelled_words c.numbers
    → g ≡ f ++ spelled_words (ends_from 0 c.lists) → h ≡ g ++ spelled_words (joined c.lists) → h ≡ base ++ bytes_of_column c
unfolding bytes_of_column
dimension_by c base a b d e f g h n t count texts pa pb pd pe pf pg ph =
    let t' : four_bytes t ≡ four_bytes (length (joined c.dictionary)) = ap four_bytes texts ∙ low_of_many (length (joined c.dictionary)) in
    let b' : b ≡ (base ++ four_bytes (length c.dictionary)) ++ four_bytes (length (joined c.dictionary)) = pb ∙ (λ i. (pa ∙ ap (λ k. base ++ four_bytes k) count) i ++ t' i) in
    let h' : h ≡ (((((((base ++ four_bytes (length c.dictionary)) ++ four_bytes (length (joined c.dictionary))) ++ spelled_words (ends_from 0 c.dictionary)) ++ joined c.dictionary) ++ spelled_words c.numbers) ++ spelled_words (ends_from 0 c.lists)) ++ spelled_words (joined c.lists)) =
    ph ∙ ap (λ k. k ++ spelled_words (joined c.lists)) (pg ∙ ap (λ k. k ++ spelled_words (ends_from 0 c.lists)) (pf ∙ ap (λ k. k ++ spelled_words c.numbers) (pe ∙ ap (λ k. k ++ joined c.dictionary) (pd ∙ ap (λ k. k ++ spelled_words (ends_from 0 c.dictionary)) b')))) in
    h' ∙ simp append_assoc

-- ---- the ends of a loop's items

pub ends_step : {A X : Type 0} (f : X → List A) (base out : List ℕ) (xs : List X) (i : ℕ) (d : X) (end next : ℕ) → i < length xs → EndsSoFar base out (map f (take i xs)) end → next ≡ (end + length (f (get_or xs i d))) % 18446744073709551616
    → EndsSoFar base (out ++ four_bytes next) (map f (take (i + 1) xs)) next
ends_step f base out xs i d end next lt so_far adds =
    subst (λ yss. EndsSoFar base (out ++ four_bytes next) yss next) (sym (map_more f xs i d lt)) (ends_so_far base out (map f (take i xs)) (f (get_or xs i d)) end next so_far adds)

-- ---- the length

pub length-bytes : (t : Table) → length (bytes_of t) ≡ 80 + length (data_of t)
unfolding bytes_of
length-bytes t =
    let a = length-head t in
    let b = length-append (head_of t) (data_of t) in
    let c = length-append (head_of t ++ data_of t) (sha256 (head_of t ++ data_of t)) in
    let d = length-sha256 (head_of t ++ data_of t) in
    omega arith

pub length-data : (t : Table) → length (data_of t) ≡ length (spelled_longs t.times) + length (flat_map spelled_longs t.metrics) + length (flat_map bytes_of_column t.dims)
unfolding data_of
length-data t =
    let rest : List ℕ = flat_map spelled_longs t.metrics ++ flat_map bytes_of_column t.dims in
    let a = length-append (spelled_longs t.times) rest in
    let b = length-append (flat_map spelled_longs t.metrics) (flat_map bytes_of_column t.dims) in
    omega arith

-- an image has eight bytes for each row at least
pub long_by_rows : (s : Sealed) → 8 * length s.rows ≤ length (image s)
unfolding table_of
long_by_rows s =
    let a = length-bytes (table_of s) in
    let b = length-data (table_of s) in
    let c = length-spelled_longs (table_of s).times in
    let d = length-map s.rows (λ (r : Row). r.key.time) in
    omega arith

pub known : (d : Dimension) → All (λ n. n < length (column_seen d).dictionary) d.numbers.items
known d = subst (λ n. All (λ m. m < n) d.numbers.items) (sym (length-map d.dictionary.items (λ t. t.now))) d.known

-- how many bytes a dimension has whose numbers are in the dictionary
pub length-column : (dictionary : List (List ℕ)) (numbers : List ℕ) → All (λ n. n < length dictionary) numbers → length (bytes_of_column (column_with dictionary numbers)) ≡ 8 + 8 * length dictionary + length (joined dictionary) + 8 * length numbers
length-column dictionary numbers known =
    column_length (length numbers) (column_with dictionary numbers) refl (joined_long (length dictionary) numbers known) (length-lists (length dictionary) numbers)

-- the rows of a dimension are few where its bytes are
pub each_few : (dims : List Dimension) → length (flat_map bytes_of_column (map column_seen dims)) ≤ 1073741824 → All (λ (d : Dimension). length d.numbers.items ≤ 134217728) dims
each_few dims few k d lt =
    let c : Column = column_seen (get_or dims k d) in
    let at : get_or (map column_seen dims) k (column_seen d) ≡ c = get_or-map column_seen dims k d (column_seen d) lt in
    let part = length-flat_map-take bytes_of_column (map column_seen dims) k (column_seen d) (omega (arith, length-map dims column_seen)) in
    let long : length (bytes_of_column c) ≡ 8 + 8 * length c.dictionary + length (joined c.dictionary) + 8 * length c.numbers = length-column c.dictionary c.numbers (known (get_or dims k d)) in
    omega (arith, ap (λ (x : Column). length (bytes_of_column x)) at, part, long, few)

-- ---- the header

pub low_half : (n : ℕ) → two_bytes (n % 65536) ≡ two_bytes n
unfolding two_bytes
low_half n =
    let a : n % 65536 % 256 ≡ n % 256 = omega arith in
    let b : n % 65536 / 256 % 256 ≡ n / 256 % 256 = omega arith in
    λ i. a i ∷ b i ∷ []

regrouped : (base a b c d e f g h j k : List ℕ)
    → ((((((((((base ++ a) ++ b) ++ c) ++ d) ++ e) ++ f) ++ g) ++ h) ++ j) ++ k) ≡ base ++ (a ++ (b ++ (c ++ (d ++ (e ++ (f ++ (g ++ (h ++ (j ++ k)))))))))
regrouped base a b c d e f g h j k = simp append_assoc

-- ten pieces, one behind the other
pub ten_pieces : (base a b c d e f g h j k o1 o2 o3 o4 o5 o6 o7 o8 o9 o10 : List ℕ)
    → o1 ≡ base ++ a → o2 ≡ o1 ++ b → o3 ≡ o2 ++ c → o4 ≡ o3 ++ d → o5 ≡ o4 ++ e → o6 ≡ o5 ++ f → o7 ≡ o6 ++ g → o8 ≡ o7 ++ h → o9 ≡ o8 ++ j → o10 ≡ o9 ++ k
    → o10 ≡ base ++ (a ++ (b ++ (c ++ (d ++ (e ++ (f ++ (g ++ (h ++ (j ++ k)))))))))
ten_pieces base a b c d e f g h j k o1 o2 o3 o4 o5 o6 o7 o8 o9 o10 p1 p2 p3 p4 p5 p6 p7 p8 p9 p10 =
    p10 ∙ ap (λ x. x ++ k) (p9 ∙ ap (λ x. x ++ j) (p8 ∙ ap (λ x. x ++ h) (p7 ∙ ap (λ x. x ++ g) (p6 ∙ ap (λ x. x ++ f) (p5 ∙ ap (λ x. x ++ e) (p4 ∙ ap (λ x. x ++ d) (p3 ∙ ap (λ x. x ++ c) (p2 ∙ ap (λ x. x ++ b) p1))))))))
    ∙ regrouped base a b c d e f g h j k

-- the numbers in front are those of the columns
pub head_is : (t : Table) (size : ℕ) → size ≡ length (bytes_of t)
    → head_bytes (record { rollup = t.rollup; size = size; chunk = t.chunk; from = t.from; to = t.to; dims = length t.dims; metrics = length t.metrics; rows = length t.times }) ≡ head_of t
unfolding head_of two_bytes wide_bytes four_bytes
head_is t size count =
    let total : size ≡ 80 + length (data_of t) = count ∙ length-bytes t in
    λ i. to_le_bytes w32 magic ++ (to_le_bytes w16 1 ++ (to_le_bytes w16 (if t.rollup then 1 else 0) ++ (to_le_bytes w64 (total i)
    ++ (eight_bytes t.chunk ++ (to_le_bytes w64 t.from ++ (to_le_bytes w64 t.to ++ (to_le_bytes w16 (length t.dims) ++ (to_le_bytes w16 (length t.metrics) ++ to_le_bytes w32 (length t.times)))))))))

-- the head, the columns and the digest, one behind the other
pub image_is : (t : Table) (h : Head) (a b c d bytes : List ℕ) → h ≡ record { rollup = t.rollup; size = length (bytes_of t); chunk = t.chunk; from = t.from; to = t.to; dims = length t.dims; metrics = length t.metrics; rows = length t.times }
    → a ≡ head_bytes h → b ≡ a ++ spelled_longs t.times → c ≡ b ++ flat_map spelled_longs t.metrics → d ≡ c ++ flat_map bytes_of_column t.dims → bytes ≡ with_digest d → bytes ≡ bytes_of t
unfolding bytes_of data_of
image_is t h a b c d bytes is pa pb pc pd signed =
    let front : a ≡ head_of t = pa ∙ ap head_bytes is ∙ head_is t (length (bytes_of t)) refl in
    let all : d ≡ ((head_of t ++ spelled_longs t.times) ++ flat_map spelled_longs t.metrics) ++ flat_map bytes_of_column t.dims = pd ∙ ap (λ k. k ++ flat_map bytes_of_column t.dims) (pc ∙ ap (λ k. k ++ flat_map spelled_longs t.metrics) (pb ∙ ap (λ k. k ++ spelled_longs t.times) front)) in
    signed ∙ ap with_digest (all ∙ simp append_assoc)
