-- Each image of at most 2^30 bytes opens, as the columns that were written.
use Rattle.std.proofs.Common.{◌≡◌, ◌∙◌, sym, refl, ap, subst, ℕ, ℤ, pos, zero, suc, ◌+◌, ◌-◌, ◌*◌, ◌^◌, ◌<◌, ◌≤◌, ◌≤ℤ◌, Bool, true, false, cond, ◌||◌, ◌==◌, FitsSigned, List, [], ◌∷◌, ◌++◌, length, map, take, drop, get_or, arith, lit<, nat_le, nat_lt, if◌then◌else◌, IsUtf8, Ok}
use Rattle.std.specs.Prelude.{int_le}
use Rattle.std.specs.List.{flat_map, list_all, range_with_len, AllByRecursion}
use Rattle.std.specs.Int.{w16, w32, w64, to_le_bytes, from_le_bytes}
use Rattle.std.specs.Cmp.Lexicographic.{bytes_decides}
use Rattle.std.proofs.lemmas.Str.{IsUtf8-nil}
use Rattle.std.proofs.lemmas.Int.{ints}
use Rattle.std.proofs.lemmas.Nat.{from_le_bytes-to_le_bytes_2, from_le_bytes-to_le_bytes_4, from_le_bytes-to_le_bytes_8}
use Rattle.std.proofs.lemmas.Bool.{and_from, le-leb, lt-ltb, eq-eqb, true_from_ne_false}
use Rattle.std.proofs.lemmas.List.{length-map, length-append, append_assoc, drop-drop, length-drop}
use Rattle.std.proofs.lemmas.List.Elements.{recursion_from_All}
use Rattle.std.proofs.lemmas.List.FromFn.{length-map-range_with_len}
use Rattle.sha2.specs.Sha256.{sha256, digest_bytes}
use Rattle.dr_base.specs.declared.row.Row.{Row}
use Rattle.dr_time.specs.Instant.{is_instant, IsInstant, first_instant, last_instant}
use Rattle.dr_image.specs.declared.header.Header.{Header}
use Rattle.dr_image.specs.Words.{long, longs, word_at, eight_bytes, spelled_longs}
use Rattle.dr_image.specs.Pieces.{pieces, ends_from}
use Rattle.dr_image.specs.Table.{Column, Table, rows_of}
use Rattle.dr_image.specs.Sealed.{Sealed, HasImage, IsRowOf, each_next, may_follow}
use Rattle.dr_image.specs.Image.{joined, rows_with, magic, bytes_of_column, data_of, head_of, bytes_of, image, column_of, values_of, metric_of, table_of}
use Rattle.dr_image.specs.Layout.{Part, header_of, metrics_at, dims_at, parts_of, parts_in, parts_fill, metrics_of, column_in, read_table}
use Rattle.dr_image.specs.Opening.{headed, framed, filled, open_of, is_version, is_length, counts_fit, columns_fill, has_digest, is_dictionary, numbers_fit, times_fit, ranks_fit, is_index, row_lists_fit, texts_fit}
use Rattle.dr_image.proofs.SpellingLemmas.{AreWords, longs_read, length-spelled_longs, long_eight}
use Rattle.dr_image.proofs.WholeLemmas.{seam}
use Rattle.dr_image.proofs.ListingLemmas.{total_all}
use Rattle.dr_image.proofs.TableLemmas.{IsListed}
use Rattle.dr_image.proofs.OrderLemmas.{order_is}
use Rattle.dr_image.proofs.OpenedLemmas.{fits_at}
use Rattle.dr_image.proofs.RowLemmas.{listed_values, times_long, rows_again, row_lists_of, joined_total}
use Rattle.dr_image.proofs.DecodingLemmas.{IsSpelled, part_for, pieces_of_ends, ends_of_fit, length-ends, length-column, AreParts, parts_read, metrics_read, skip_on}

-- ---- numbers that are written fit

rows_small : (i v bound : ℕ) (ns : List ℕ) → i + length ns ≤ bound → 0 < bound → (k : ℕ) → get_or (rows_with i v ns) k 0 < bound
unfolding rows_with
rows_small i v bound [] le some zero = some
rows_small i v bound [] le some (suc k) = some
rows_small i v bound (n ∷ ns) le some k =
    let rest = rows_small (i + 1) v bound ns (omega (arith, le)) some in
    elim (n == v) as (λ b. get_or (cond b (i ∷ rows_with (i + 1) v ns) (rows_with (i + 1) v ns)) k 0 < bound) [ true ↦ front k rest | false ↦ rest k ]
  where
    front : (k : ℕ) → ((j : ℕ) → get_or (rows_with (i + 1) v ns) j 0 < bound) → get_or (i ∷ rows_with (i + 1) v ns) k 0 < bound
    front zero rest = omega (arith, le)
    front (suc k) rest = rest k

words_append : (xs ys : List ℕ) → AreWords xs → AreWords ys → AreWords (xs ++ ys)
words_append [] ys a b i = b i
words_append (x ∷ xs) ys a b zero = a zero
words_append (x ∷ xs) ys a b (suc i) = words_append xs ys (λ j. a (suc j)) b i

lists_small : (start k : ℕ) (ns : List ℕ) → length ns < 2 ^ 32 → AreWords (joined (map (λ v. rows_with 0 v ns) (range_with_len start k)))
lists_small start zero ns few i = lit< tt
lists_small start (suc k) ns few i = words_append (rows_with 0 start ns) (joined (map (λ v. rows_with 0 v ns) (range_with_len (start + 1) k))) (rows_small 0 start (2 ^ 32) ns (omega (arith, few)) (lit< tt)) (lists_small (start + 1) k ns few) i

pub all_from : (p : ℕ → Bool) (xs : List ℕ) → ((i : ℕ) → i < length xs → p (get_or xs i 0) ≡ true) → list_all p xs ≡ true
all_from p [] each = refl
all_from p (x ∷ xs) each = and_from _ _ (each 0 (omega arith)) (all_from p xs (λ i lt. each (suc i) (omega arith)))

numbers_below : (n : ℕ) (c : Column) → IsListed n c → list_all (λ k. nat_lt k (length c.dictionary)) c.numbers ≡ true
numbers_below n c listed = let long = listed.long in all_from (λ k. nat_lt k (length c.dictionary)) c.numbers (λ i lt. lt-ltb _ _ (listed.below i (omega (arith, lt, long))))

small_at : (ns : List ℕ) (bound : ℕ) → 0 < bound → ((i : ℕ) → i < length ns → get_or ns i 0 < bound) → (i : ℕ) → get_or ns i 0 < bound
small_at [] bound some each zero = some
small_at [] bound some each (suc i) = some
small_at (n ∷ ns) bound some each zero = each 0 (omega arith)
small_at (n ∷ ns) bound some each (suc i) = small_at ns bound some (λ j lt. each (suc j) (omega arith)) i

lists_long : (n : ℕ) (c : Column) → IsListed n c → length (joined c.lists) ≡ n
lists_long n c listed =
    ap (λ (xss : List (List ℕ)). length (joined xss)) listed.lists ∙ joined_total 0 (length c.dictionary) c.numbers
    ∙ total_all (length c.dictionary) c.numbers (numbers_below n c listed) ∙ listed.long

lists_count : (n : ℕ) (c : Column) → IsListed n c → length c.lists ≡ length c.dictionary
lists_count n c listed = ap length listed.lists ∙ length-map-range_with_len (λ v. rows_with 0 v c.numbers) 0 (length c.dictionary)

spelled_by : (n : ℕ) (c : Column) → IsListed n c → n < 2 ^ 32 → length (bytes_of_column c) ≤ 1073741824 → IsSpelled n c
spelled_by n c listed few bound =
    let long = listed.long in
    let all = lists_long n c listed in
    let count = lists_count n c listed in
    let size = length-column n c long all count in
    let values : length c.dictionary < 2 ^ 32 = omega (arith, size, bound) in
    record {
      values = values;
      texts = omega (arith, size, bound);
      rows = few;
      numbers = small_at c.numbers (2 ^ 32) (lit< tt) (λ i lt. (let b = listed.below i (omega (arith, lt, long)) in omega (arith, b, values)));
      listed = λ i. ap_lt (λ (xss : List (List ℕ)). get_or (joined xss) i 0) (sym listed.lists) (lists_small 0 (length c.dictionary) c.numbers (omega (arith, long, few)) i);
      long = long;
      all_rows = all;
      lists = count;
    }
  where
    ap_lt : (f : List (List ℕ) → ℕ) {a b : List (List ℕ)} → a ≡ b → f a < 2 ^ 32 → f b < 2 ^ 32
    ap_lt f e lt = subst (λ xss. f xss < 2 ^ 32) e lt

all_spelled : (n : ℕ) (cs : List Column) → AllByRecursion (IsListed n) cs → n < 2 ^ 32 → length (flat_map bytes_of_column cs) ≤ 1073741824 → AllByRecursion (IsSpelled n) cs
all_spelled n [] all few bound = tt
all_spelled n (c ∷ cs) all few bound =
    let size : length (bytes_of_column c ++ flat_map bytes_of_column cs) ≡ length (bytes_of_column c) + length (flat_map bytes_of_column cs) = length-append (bytes_of_column c) (flat_map bytes_of_column cs) in
    (spelled_by n c all.0 few (omega (arith, size, bound)), all_spelled n cs all.1 few (omega (arith, size, bound)))

-- ---- columns of which an image is made

pub record IsWritten (t : Table) : Type 0 where
  pub some_row : 1 ≤ length t.times
  pub few_rows : length t.times < 2 ^ 32
  pub some_dimension : 1 ≤ length t.dims
  pub few_dimensions : length t.dims ≤ 64
  pub few_metrics : length t.metrics ≤ 64
  pub chunk : FitsSigned w64 t.chunk
  pub from_fits : t.from < 2 ^ 64
  pub to_fits : t.to < 2 ^ 64
  pub range : length t.times ≤ t.to - t.from
  pub each_event : t.rollup ≡ false → length t.times ≡ t.to - t.from
  pub times : AllByRecursion (FitsSigned w64) t.times
  pub metrics : AllByRecursion (λ zs. (length zs ≡ length t.times) × AllByRecursion (FitsSigned w64) zs) t.metrics
  pub dims : AllByRecursion (IsListed (length t.times)) t.dims
  pub instants : times_fit t.chunk t.times ≡ true
  pub order : each_next (may_follow t.rollup) (rows_of t) ≡ true
  pub size : 80 + length (data_of t) ≤ 1073741824

-- the bytes, with the digest taken as any
abbrev with_last : Table → List ℕ → List ℕ
with_last t rest = (head_of t ++ data_of t) ++ rest

abbrev head_for : Table → Header
head_for t = record { rollup = t.rollup; chunk = t.chunk; from = t.from; to = t.to; dims = length t.dims; metrics = length t.metrics; rows = length t.times }

marked : (b : Bool) → (from_le_bytes w16 (to_le_bytes w16 (if b then 1 else 0)) == 1) ≡ b
marked true = refl
marked false = refl

mark_small : (b : Bool) → nat_le (from_le_bytes w16 (to_le_bytes w16 (if b then 1 else 0))) 1 ≡ true
mark_small true = refl
mark_small false = refl

header_read : (t : Table) (rest : List ℕ) → IsWritten t → header_of (with_last t rest) ≡ head_for t
unfolding header_of head_of word_at eight_bytes long
header_read t rest written =
    let few = written.few_rows in
    let d = written.few_dimensions in
    let m = written.few_metrics in
    let rollup = marked t.rollup in
    let chunk = long_eight t.chunk written.chunk in
    let from = from_le_bytes-to_le_bytes_8 t.from written.from_fits in
    let to = from_le_bytes-to_le_bytes_8 t.to written.to_fits in
    let dims = from_le_bytes-to_le_bytes_2 (length t.dims) (omega (arith, d)) in
    let metrics = from_le_bytes-to_le_bytes_2 (length t.metrics) (omega (arith, m)) in
    let rows = from_le_bytes-to_le_bytes_4 (length t.times) few in
    λ i. record { rollup = rollup i; chunk = chunk i; from = from i; to = to i; dims = dims i; metrics = metrics i; rows = rows i }

behind_head : (t : Table) (rest : List ℕ) → drop 48 (with_last t rest) ≡ data_of t ++ rest
unfolding head_of eight_bytes
behind_head t rest = refl

pub length-head : (t : Table) → length (head_of t) ≡ 48
unfolding head_of eight_bytes
length-head t = refl

length-sha256 : (m : List ℕ) → length (sha256 m) ≡ 32
unfolding sha256 digest_bytes
length-sha256 m = refl

first_words : (t : Table) (rest : List ℕ) → (word_at w32 0 (with_last t rest) ≡ magic) × (word_at w16 4 (with_last t rest) ≡ 1) × (nat_le (word_at w16 6 (with_last t rest)) 1 ≡ true)
unfolding head_of word_at eight_bytes
first_words t rest = (refl, refl, mark_small t.rollup)

length_read : (t : Table) (rest : List ℕ) → 80 + length (data_of t) < 2 ^ 64 → word_at w64 8 (with_last t rest) ≡ 80 + length (data_of t)
unfolding head_of word_at eight_bytes
length_read t rest lt = from_le_bytes-to_le_bytes_8 (80 + length (data_of t)) lt

-- ---- what is read of the bytes

record AreAt (t : Table) (rest : List ℕ) : Type 0 where
  times : longs (length t.times) (drop 48 (with_last t rest)) ≡ t.times
  metrics : metrics_of (length t.metrics) (length t.times) (drop (metrics_at (head_for t)) (with_last t rest)) ≡ t.metrics
  dims : drop (dims_at (head_for t)) (with_last t rest) ≡ flat_map bytes_of_column t.dims ++ rest

are_at : (t : Table) (rest : List ℕ) → IsWritten t → AreAt t rest
unfolding data_of
are_at t rest written =
    let n : ℕ = length t.times in
    let m : ℕ = length t.metrics in
    let z : List ℕ = with_last t rest in
    let x : List ℕ = spelled_longs t.times in
    let y : List ℕ = flat_map spelled_longs t.metrics in
    let p : List ℕ = flat_map bytes_of_column t.dims in
    let at : drop 48 z ≡ (x ++ (y ++ p)) ++ rest = behind_head t rest in
    let size : 8 * n ≡ length x = sym (length-spelled_longs t.times) in
    let on : drop (48 + 8 * n) z ≡ y ++ (p ++ rest) = skip_on 48 (8 * n) (48 + 8 * n) z x (y ++ p) rest at size refl ∙ append_assoc y p rest in
    let got = metrics_read n t.metrics (p ++ rest) written.metrics in
    record {
      times = ap (longs n) (at ∙ append_assoc x (y ++ p) rest) ∙ longs_read t.times ((y ++ p) ++ rest) written.times;
      metrics = ap (metrics_of m n) on ∙ got.0;
      dims = sym (drop-drop (8 * n * m) (48 + 8 * n) z) ∙ ap (drop (8 * n * m)) on ∙ got.1;
    }

pub record IsRead (t : Table) (z : List ℕ) : Type 0 where
  pub table : read_table z ≡ t
  pub parts : parts_in z ≡ map part_for t.dims
  pub fills : columns_fill (header_of z) z ≡ true

column_back : (c : Column) → column_in (part_for c) ≡ c
column_back c =
    let a : pieces 0 (ends_from 0 c.dictionary) (joined c.dictionary) ≡ c.dictionary = pieces_of_ends 0 c.dictionary (joined c.dictionary) refl in
    let b : pieces 0 (ends_from 0 c.lists) (joined c.lists) ≡ c.lists = pieces_of_ends 0 c.lists (joined c.lists) refl in
    λ i. record { dictionary = a i; numbers = c.numbers; lists = b i }

columns_back : (cs : List Column) → map column_in (map part_for cs) ≡ cs
columns_back [] = refl
columns_back (c ∷ cs) = λ i. column_back c i ∷ columns_back cs i

length-data : (t : Table) → length (flat_map bytes_of_column t.dims) ≤ length (data_of t)
unfolding data_of
length-data t =
    let x : List ℕ = spelled_longs t.times in
    let y : List ℕ = flat_map spelled_longs t.metrics in
    let p : List ℕ = flat_map bytes_of_column t.dims in
    omega (arith, length-append x (y ++ p), length-append y p)

pub is_read : (t : Table) (rest : List ℕ) → IsWritten t → length rest ≡ 32 → IsRead t (with_last t rest)
unfolding read_table
is_read t rest written last =
    let n : ℕ = length t.times in
    let z : List ℕ = with_last t rest in
    let g : Header = head_for t in
    let h : header_of z ≡ g = header_read t rest written in
    let at : AreAt t rest = are_at t rest written in
    let p : List ℕ = flat_map bytes_of_column t.dims in
    let size = written.size in
    let spelled = all_spelled n t.dims written.dims written.few_rows (omega (arith, size, length-data t)) in
    let got : AreParts n t.dims rest = parts_read n t.dims rest spelled last in
    let parts : parts_in z ≡ map part_for t.dims = ap (λ (k : Header). parts_of k.dims k.rows (drop (dims_at k) z)) h ∙ ap (parts_of (length t.dims) n) at.dims ∙ got.are in
    let times : longs (header_of z).rows (drop 48 z) ≡ t.times = ap (λ (k : Header). longs k.rows (drop 48 z)) h ∙ at.times in
    let metrics : metrics_of (header_of z).metrics (header_of z).rows (drop (metrics_at (header_of z)) z) ≡ t.metrics = ap (λ (k : Header). metrics_of k.metrics k.rows (drop (metrics_at k) z)) h ∙ at.metrics in
    let dims : map column_in (parts_in z) ≡ t.dims = ap (map column_in) parts ∙ columns_back t.dims in
    let room : dims_at g + 32 ≤ length z = (let e = ap length at.dims in omega (arith, e, length-drop (dims_at g) z, length-append p rest, last)) in
    record {
      table = λ i. record { rollup = (h i).rollup; chunk = (h i).chunk; from = (h i).from; to = (h i).to; times = times i; metrics = metrics i; dims = dims i };
      parts = parts;
      fills = ap (λ (k : Header). columns_fill k z) h ∙ and_from _ _ (le-leb _ _ room) (ap (parts_fill (length t.dims) n) at.dims ∙ got.fill);
    }

-- ---- the lengths

headed_ok : (z : List ℕ) → nat_le 16 (length z) ≡ true → (word_at w32 0 z == magic) ≡ true → is_version z ≡ true → nat_le (word_at w64 8 z) (length z) ≡ true → is_length z ≡ true → counts_fit (header_of z) ≡ true
    → headed z ≡ Ok (header_of z)
unfolding headed
headed_ok z a b c d e f = rw (a, b, c, d, e, f) refl

framed_ok : (z : List ℕ) → headed z ≡ Ok (header_of z) → columns_fill (header_of z) z ≡ true → framed z ≡ Ok tt
unfolding framed
framed_ok z head fills = rw (head, fills) refl

counts_ok : (t : Table) → IsWritten t → counts_fit (head_for t) ≡ true
counts_ok t written =
    let n : ℕ = length t.times in
    let some = written.some_row in
    let range = written.range in
    and_from _ _ (le-leb 1 n some)
    (and_from _ _ (le-leb 1 (length t.dims) written.some_dimension)
    (and_from _ _ (le-leb (length t.dims) 64 written.few_dimensions)
    (and_from _ _ (le-leb (length t.metrics) 64 written.few_metrics)
    (and_from _ _ (lt-ltb t.from t.to (omega (arith, some, range)))
    (and_from _ _ (le-leb n (t.to - t.from) range) (events t.rollup refl))))))
  where
    events : (b : Bool) → t.rollup ≡ b → (b || (length t.times == t.to - t.from)) ≡ true
    events true e = refl
    events false e = eq-eqb _ _ (written.each_event e)

pub is_framed : (t : Table) (rest : List ℕ) → IsWritten t → length rest ≡ 32 → framed (with_last t rest) ≡ Ok tt
is_framed t rest written last =
    let z : List ℕ = with_last t rest in
    let size = written.size in
    let long : length z ≡ 80 + length (data_of t) = omega (arith, last, length-head t, length-append (head_of t ++ data_of t) rest, length-append (head_of t) (data_of t)) in
    let w = first_words t rest in
    let said : word_at w64 8 z ≡ 80 + length (data_of t) = length_read t rest (omega (arith, size)) in
    let same : word_at w64 8 z ≡ length z = said ∙ sym long in
    let l : ℕ = word_at w64 8 z in
    let counts : counts_fit (header_of z) ≡ true = ap counts_fit (header_read t rest written) ∙ counts_ok t written in
    framed_ok z
    (headed_ok z (le-leb 16 (length z) (omega (arith, long))) (eq-eqb _ _ w.0) (and_from _ _ (eq-eqb _ _ w.1) w.2) (le-leb l (length z) (omega (arith, same)))
    (and_from _ _ (le-leb (length z) l (omega (arith, same))) (and_from _ _ (le-leb 80 l (omega (arith, said))) (le-leb l 1073741824 (omega (arith, said, size))))) counts)
    (is_read t rest written last).fills

-- ---- the contents

all_of_map : {A : Type 0} (p : Part → Bool) (P : A → Type 0) (f : A → Part) → ((x : A) → P x → p (f x) ≡ true) → (xs : List A) → AllByRecursion P xs → list_all p (map f xs) ≡ true
all_of_map p P f each [] all = refl
all_of_map p P f each (x ∷ xs) all = and_from _ _ (each x all.0) (all_of_map p P f each xs all.1)

dictionary_ok : (n : ℕ) (c : Column) → IsListed n c → is_dictionary (part_for c) ≡ true
dictionary_ok n c listed =
    let e : pieces 0 (ends_from 0 c.dictionary) (joined c.dictionary) ≡ c.dictionary = pieces_of_ends 0 c.dictionary (joined c.dictionary) refl in
    and_from _ _ (ends_of_fit 0 (length (joined c.dictionary)) c.dictionary (omega arith)) (ap texts_fit e ∙ and_from _ _ listed.utf8 listed.rises)

numbers_ok : (n : ℕ) (c : Column) → IsListed n c → numbers_fit (part_for c) ≡ true
numbers_ok n c listed = ap (λ v. list_all (λ k. nat_lt k v) c.numbers) (length-ends 0 c.dictionary) ∙ numbers_below n c listed

index_ok : (n : ℕ) (c : Column) → IsListed n c → is_index (part_for c) ≡ true
index_ok n c listed =
    let e : pieces 0 (ends_from 0 c.lists) (joined c.lists) ≡ c.lists = pieces_of_ends 0 c.lists (joined c.lists) refl in
    and_from _ _ (ends_of_fit 0 (length (joined c.lists)) c.lists (omega arith))
    (ap (row_lists_fit 0 c.numbers) (e ∙ listed.lists) ∙ row_lists_of 0 (length c.dictionary) c.numbers (λ v lt. listed.used v (omega (arith, lt))))

filled_ok : (z : List ℕ) → list_all is_dictionary (parts_in z) ≡ true → list_all numbers_fit (parts_in z) ≡ true → times_fit (read_table z).chunk (read_table z).times ≡ true
    → ranks_fit (read_table z).rollup (read_table z).times (parts_in z) ≡ true → list_all is_index (parts_in z) ≡ true → filled z ≡ Ok tt
unfolding filled
filled_ok z a b c d e = rw (a, b, c, d, e) refl

pub is_filled : (t : Table) (z : List ℕ) → IsWritten t → IsRead t z → filled z ≡ Ok tt
is_filled t z written got =
    let n : ℕ = length t.times in
    let parts = got.parts in
    filled_ok z (ap (list_all is_dictionary) parts ∙ all_of_map is_dictionary (IsListed n) part_for (dictionary_ok n) t.dims written.dims)
    (ap (list_all numbers_fit) parts ∙ all_of_map numbers_fit (IsListed n) part_for (numbers_ok n) t.dims written.dims)
    (ap (λ (k : Table). times_fit k.chunk k.times) got.table ∙ written.instants)
    ((λ i. ranks_fit (got.table i).rollup (got.table i).times (parts i)) ∙ sym (order_is t (map part_for t.dims) written.some_row (columns_back t.dims) written.dims) ∙ written.order)
    (ap (list_all is_index) parts ∙ all_of_map is_index (IsListed n) part_for (index_ok n) t.dims written.dims)

digest_ok : (body : List ℕ) → has_digest (body ++ sha256 body) ≡ true
digest_ok body =
    let z : List ℕ = body ++ sha256 body in
    let s = seam body (sha256 body) (length z) refl (length-sha256 body) in
    (bytes_decides (drop (length z - 32) z) (sha256 (take (length z - 32) z))).1 (s.1 ∙ ap sha256 (sym s.0))

open_ok : (z : List ℕ) → framed z ≡ Ok tt → has_digest z ≡ true → filled z ≡ Ok tt → open_of z ≡ Ok (read_table z)
unfolding open_of
open_ok z a b c = rw (a, b, c) refl

pub opens_written : (t : Table) → IsWritten t → open_of (bytes_of t) ≡ Ok t
unfolding bytes_of
opens_written t written =
    let rest : List ℕ = sha256 (head_of t ++ data_of t) in
    let last : length rest ≡ 32 = length-sha256 (head_of t ++ data_of t) in
    let z : List ℕ = with_last t rest in
    let got : IsRead t z = is_read t rest written last in
    open_ok z (is_framed t rest written last) (digest_ok (head_of t ++ data_of t)) (is_filled t z written got) ∙ ap Ok got.table

-- ---- the columns of rows that have an image

each_of : {A B : Type 0} (P : B → Type 0) (f : A → B) → ((x : A) → P (f x)) → (xs : List A) → AllByRecursion P (map f xs)
each_of P f each [] = tt
each_of P f each (x ∷ xs) = (each x, each_of P f each xs)

from_each : {A B : Type 0} (P : A → Type 0) (Q : B → Type 0) (f : A → B) → ((x : A) → P x → Q (f x)) → (xs : List A) → AllByRecursion P xs → AllByRecursion Q (map f xs)
from_each P Q f each [] all = tt
from_each P Q f each (x ∷ xs) all = (each x all.0, from_each P Q f each xs all.1)

utf8_at : (xs : List (List ℕ)) (d : ℕ) → AllByRecursion IsUtf8 xs → IsUtf8 (get_or xs d [])
utf8_at [] zero all = IsUtf8-nil
utf8_at [] (suc d) all = IsUtf8-nil
utf8_at (x ∷ xs) zero all = all.0
utf8_at (x ∷ xs) (suc d) all = utf8_at xs d all.1

instant_fits : (z : ℤ) → IsInstant z → FitsSigned w64 z
instant_fits z h = omega (arith, ints)

le_true : (a b : ℤ) → a ≤ℤ b → int_le a b ≡ true
le_true a b le = true_from_ne_false (int_le a b) (λ e. absurd (omega (arith, ints, le, e)))

instant_is : (z : ℤ) → IsInstant z → is_instant z ≡ true
instant_is z h = and_from (int_le first_instant z) (int_le z last_instant) (le_true first_instant z h.0) (le_true z last_instant h.1)

listed_dim : (s : Sealed) (d : ℕ) → AllByRecursion (IsRowOf s) s.rows → IsListed (length s.rows) (column_of (values_of d s.rows))
listed_dim s d rows =
    let vs : List (List ℕ) = values_of d s.rows in
    let utf8 : AllByRecursion IsUtf8 vs = from_each (IsRowOf s) IsUtf8 (λ (r : Row). get_or r.key.dims d []) (λ r is. utf8_at r.key.dims d (recursion_from_All IsUtf8 r.key.dims is.texts)) s.rows rows in
    subst (λ (n : ℕ). IsListed n (column_of vs)) (length-map s.rows (λ (r : Row). get_or r.key.dims d [])) (listed_values vs utf8)

metric_fits : (s : Sealed) (m : ℕ) → AllByRecursion (IsRowOf s) s.rows → (length (metric_of m s.rows) ≡ length s.rows) × AllByRecursion (FitsSigned w64) (metric_of m s.rows)
metric_fits s m rows = (
  length-map s.rows (λ (r : Row). get_or r.metrics m (pos 0)),
  from_each (IsRowOf s) (FitsSigned w64) (λ (r : Row). get_or r.metrics m (pos 0)) (λ r is. fits_at r.metrics m (recursion_from_All (FitsSigned w64) r.metrics is.in_range)) s.rows rows,
)

all_instants : (s : Sealed) (rows : List Row) → AllByRecursion (IsRowOf s) rows → list_all is_instant (map (λ (r : Row). r.key.time) rows) ≡ true
all_instants s [] all = refl
all_instants s (r ∷ rows) all = and_from _ _ (instant_is r.key.time all.0.time) (all_instants s rows all.1)

first_in_chunk : (s : Sealed) (rows : List Row) → 1 ≤ length rows → AllByRecursion (IsRowOf s) rows → s.chunk ≤ℤ get_or (map (λ (r : Row). r.key.time) rows) 0 (pos 0)
first_in_chunk s [] some all = absurd (omega arith)
first_in_chunk s (r ∷ rows) some all = all.0.in_chunk

order_again : (s : Sealed) → HasImage s → each_next (may_follow s.rollup) (rows_of (table_of s)) ≡ true
order_again s has = ap (each_next (may_follow s.rollup)) (rows_again s has) ∙ has.order

data_within : (t : Table) → 80 + length (data_of t) ≡ length (bytes_of t)
unfolding bytes_of
data_within t =
    omega (arith, length-head t, length-sha256 (head_of t ++ data_of t), length-append (head_of t ++ data_of t) (sha256 (head_of t ++ data_of t)), length-append (head_of t) (data_of t))

rows_of_data : (t : Table) → 8 * length t.times ≤ length (data_of t)
unfolding data_of
rows_of_data t =
    let rest : List ℕ = flat_map spelled_longs t.metrics ++ flat_map bytes_of_column t.dims in
    omega (arith, length-spelled_longs t.times, length-append (spelled_longs t.times) rest)

pub written_by : (s : Sealed) → HasImage s → length (image s) ≤ 1073741824 → IsWritten (table_of s)
unfolding table_of
written_by s has bound =
    let t : Table = table_of s in
    let n : ℕ = length t.times in
    let long : n ≡ length s.rows = times_long s in
    let size : 80 + length (data_of t) ≡ length (image s) = data_within t in
    let rows_size = rows_of_data t in
    let rows : AllByRecursion (IsRowOf s) s.rows = recursion_from_All (IsRowOf s) s.rows has.rows in
    let dims : length t.dims ≡ s.dims = length-map-range_with_len (λ d. column_of (values_of d s.rows)) 0 s.dims in
    let metrics : length t.metrics ≡ s.metrics = length-map-range_with_len (λ m. metric_of m s.rows) 0 s.metrics in
    let a = has.some_row in
    let b = has.some_dimension in
    let c = has.few_dimensions in
    let d = has.few_metrics in
    let e = has.few_rows in
    record {
      some_row = omega (arith, long, a);
      few_rows = omega (arith, size, bound, rows_size);
      some_dimension = omega (arith, dims, b);
      few_dimensions = omega (arith, dims, c);
      few_metrics = omega (arith, metrics, d);
      chunk = instant_fits s.chunk has.chunk;
      from_fits = has.from_fits;
      to_fits = has.to_fits;
      range = omega (arith, long, e);
      each_event = λ apart. long ∙ has.each_event apart;
      times = from_each (IsRowOf s) (FitsSigned w64) (λ (r : Row). r.key.time) (λ r is. instant_fits r.key.time is.time) s.rows rows;
      metrics = subst (λ (k : ℕ). AllByRecursion (λ zs. (length zs ≡ k) × AllByRecursion (FitsSigned w64) zs) t.metrics) (sym long)
          (each_of (λ zs. (length zs ≡ length s.rows) × AllByRecursion (FitsSigned w64) zs) (λ m. metric_of m s.rows) (λ m. metric_fits s m rows) (range_with_len 0 s.metrics));
      dims = subst (λ (k : ℕ). AllByRecursion (IsListed k) t.dims) (sym long) (each_of (IsListed (length s.rows)) (λ d. column_of (values_of d s.rows)) (λ d. listed_dim s d rows) (range_with_len 0 s.dims));
      instants = and_from _ _ (instant_is s.chunk has.chunk) (and_from _ _ (all_instants s s.rows rows) (le_true s.chunk _ (first_in_chunk s s.rows a rows)));
      order = order_again s has;
      size = omega (arith, size, bound);
    }

pub image_opens : (s : Sealed) → HasImage s → length (image s) ≤ 1073741824 → open_of (image s) ≡ Ok (table_of s)
image_opens s has bound = opens_written (table_of s) (written_by s has bound)
