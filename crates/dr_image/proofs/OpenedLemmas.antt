-- What opens as an image is one: the columns that are read are those of rows that have it.
use Rattle.std.proofs.Common.{◌≡◌, ◌∙◌, sym, refl, ap, subst, ℕ, ℤ, pos, zero, suc, ◌+◌, ◌-◌, ◌*◌, ◌^◌, ◌<◌, ◌≤◌, ◌≤ℤ◌, true, false, ◌||◌, ◌&&◌, ◌==◌, FitsSigned, List, [], ◌∷◌, length, map, take, drop, get_or, arith, All, IsUtf8, Ok, rules, ◌⊎◌, inl, inr}
use Rattle.std.specs.List.{list_all, AllByRecursion}
use Rattle.std.specs.Int.{w64, from_le_bytes}
use Rattle.std.specs.Simd.{first_chunks}
use Rattle.std.specs.Prelude.{nat_le, nat_lt, int_le}
use Rattle.std.specs.Str.{is_utf8}
use Rattle.std.proofs.lemmas.Str.{IsUtf8-from_is_utf8}
use Rattle.std.proofs.lemmas.Int.{ints}
use mir.ValLaws.{to_z-Fits}
use Rattle.std.proofs.lemmas.Bool.{and_parts, eqb-true, cases_lt}
use Rattle.std.proofs.lemmas.List.{length-map, get_or_past}
use Rattle.std.proofs.lemmas.List.Elements.{All-from_recursion, recursion_from_All, All-from_get_or}
use Rattle.std.proofs.lemmas.List.FromFn.{length-map-range_with_len, get_or-map-range_with_len}
use Rattle.dr_time.specs.Instant.{is_instant, IsInstant, first_instant, last_instant}
use Rattle.dr_image.specs.declared.header.Header.{Header}
use Rattle.dr_image.specs.Words.{long, longs, word_at}
use Rattle.dr_image.specs.Table.{Column, Table, no_column, value_at, row_at, rows_of}
use Rattle.dr_image.specs.Sealed.{IsRowOf, HasImage}
use Rattle.dr_image.specs.Image.{bytes_of}
use Rattle.dr_image.specs.Layout.{Part, header_of, rows_in, metrics_at, dims_at, part_of, values_in, parts_in, metrics_of, behind, column_in, read_table}
use Rattle.dr_image.specs.Parts.{no_part}
use Rattle.dr_image.specs.Opening.{open_of, counts_fit}
use Rattle.dr_image.specs.Checked.{AreChecked, column_at}
use Rattle.dr_image.specs.Laws.{sealed_by, IsImageOf}
use Rattle.dr_image.proofs.SpellingLemmas.{AreBytes, bytes-drop, bytes-take, eight_fit}
use Rattle.dr_image.proofs.LayoutLemmas.{counted, length-parts_in, length-metrics_in, length-first_chunks, times_seen, seen_metric, rollup_in, from_in, to_in}
use Rattle.dr_image.proofs.StartLemmas.{get_or-parts_of}
use Rattle.dr_image.proofs.ReadingLemmas.{all_at, dims_seen, column_is, has_dictionary, has_index, has_numbers}
use Rattle.dr_image.proofs.OpenLemmas.{IsOpen, opened, opened_as}
use Rattle.dr_image.proofs.WholeLemmas.{headed_by, whole, length-words, header_numbers}
use Rattle.dr_image.proofs.TableLemmas.{IsListed, IsTable, listed_by, table_again}
use Rattle.dr_image.proofs.OrderLemmas.{order_is, times_up}

pub bytes_by : (bs : List ℕ) → All (λ b. b < 256) bs → AreBytes bs
bytes_by bs all i = at (cases_lt i (length bs))
  where
    at : (i < length bs) ⊎ (length bs ≤ i) → get_or bs i 0 < 256
    at (inl lt) = all i 0 lt
    at (inr le) = let e = get_or_past bs i 0 le in omega (arith, e)

-- ---- the columns

part_lengths : (n : ℕ) (bs : List ℕ) → (length (part_of n bs).numbers ≡ n) × (length (part_of n bs).rows ≡ n) × (length (part_of n bs).list_ends ≡ length (part_of n bs).ends)
unfolding part_of
part_lengths n bs = (length-words n _, length-words n _, length-words (values_in bs) _ ∙ sym (length-words (values_in bs) _))

pub listed_part : (bytes : List ℕ) (d : ℕ) → AreChecked bytes → d < length (parts_in bytes) → IsListed (rows_in bytes) (column_at (read_table bytes) d)
listed_part bytes d checked lt =
    let h : Header = header_of bytes in
    let p : Part = get_or (parts_in bytes) d no_part in
    let long = length-parts_in bytes h refl in
    let q : Part = part_of h.rows (behind d h.rows (drop (dims_at h) bytes)) in
    let is : p ≡ q = get_or-parts_of h.dims d h.rows (drop (dims_at h) bytes) no_part (omega arith) in
    let l = part_lengths h.rows (behind d h.rows (drop (dims_at h) bytes)) in
    let a : length p.numbers ≡ h.rows = ap (λ (k : Part). length k.numbers) is ∙ l.0 in
    let b : length p.rows ≡ h.rows = ap (λ (k : Part). length k.rows) is ∙ l.1 in
    let c : length p.list_ends ≡ length p.ends = ap (λ (k : Part). length k.list_ends) is ∙ l.2 ∙ sym (ap (λ (k : Part). length k.ends) is) in
    subst (IsListed h.rows) (sym (column_is bytes d p lt refl))
    (listed_by h.rows p (has_dictionary bytes d p checked lt refl) (has_numbers bytes d p checked lt refl) (has_index bytes d p checked lt refl) a b c)

pub is_table : (bytes : List ℕ) → AreChecked bytes → IsTable (read_table bytes)
is_table bytes checked =
    let h : Header = header_of bytes in
    let n = times_seen bytes in
    record {
      columns = λ d lt. subst (λ (k : ℕ). IsListed k (column_at (read_table bytes) d)) (sym n) (listed_part bytes d checked (omega (arith, dims_seen bytes, lt)));
      metrics = λ m lt.
          ap length (sym (seen_metric bytes h m refl (omega (arith, length-metrics_in bytes h refl, lt))))
          ∙ length-map (first_chunks 8 h.rows (drop (48 + 8 * h.rows + 8 * h.rows * m) bytes)) long ∙ length-first_chunks 8 h.rows (drop (48 + 8 * h.rows + 8 * h.rows * m) bytes) ∙ sym n;
    }

pub all_listed : (t : Table) → IsTable t → AllByRecursion (IsListed (length t.times)) t.dims
all_listed t table = recursion_from_All (IsListed (length t.times)) t.dims (All-from_get_or (IsListed (length t.times)) t.dims no_column table.columns)

-- ---- numbers that were read fit

longs_fit : (n : ℕ) (bs : List ℕ) → AreBytes bs → AllByRecursion (FitsSigned w64) (longs n bs)
unfolding long
longs_fit zero bs fits = tt
longs_fit (suc n) bs fits = (to_z-Fits w64 (from_le_bytes w64 (take 8 bs)) (record { fits = eight_fit (take 8 bs) (bytes-take 8 bs fits) }), longs_fit n (drop 8 bs) (bytes-drop 8 bs fits))

metrics_fit : (m n : ℕ) (bs : List ℕ) → AreBytes bs → AllByRecursion (λ zs. AllByRecursion (FitsSigned w64) zs) (metrics_of m n bs)
unfolding metrics_of
metrics_fit zero n bs fits = tt
metrics_fit (suc m) n bs fits = (longs_fit n bs fits, metrics_fit m n (drop (8 * n) bs) (bytes-drop (8 * n) bs fits))

pub fits_at : (zs : List ℤ) (i : ℕ) → AllByRecursion (FitsSigned w64) zs → FitsSigned w64 (get_or zs i (pos 0))
fits_at [] i all = search rules
fits_at (z ∷ zs) zero all = all.0
fits_at (z ∷ zs) (suc i) all = fits_at zs i all.1

row_fits : (zss : List (List ℤ)) (i : ℕ) → AllByRecursion (λ zs. AllByRecursion (FitsSigned w64) zs) zss → AllByRecursion (FitsSigned w64) (map (λ zs. get_or zs i (pos 0)) zss)
row_fits [] i all = tt
row_fits (zs ∷ zss) i all = (fits_at zs i all.0, row_fits zss i all.1)

row_utf8 : (n i : ℕ) (cs : List Column) → i < n → AllByRecursion (IsListed n) cs → AllByRecursion IsUtf8 (map (λ c. value_at c i) cs)
row_utf8 n i [] lt all = tt
row_utf8 n i (c ∷ cs) lt all = (IsUtf8-from_is_utf8 _ (all_at is_utf8 c.dictionary (get_or c.numbers i 0) [] all.0.utf8 (all.0.below i lt)), row_utf8 n i cs lt all.1)

metrics_seen_fit : (bytes : List ℕ) → AreBytes bytes → AllByRecursion (λ zs. AllByRecursion (FitsSigned w64) zs) (read_table bytes).metrics
unfolding read_table
metrics_seen_fit bytes fits = metrics_fit (header_of bytes).metrics (header_of bytes).rows (drop (metrics_at (header_of bytes)) bytes) (bytes-drop (metrics_at (header_of bytes)) bytes fits)

-- ---- all of it

instant_by : (z : ℤ) → is_instant z ≡ true → IsInstant z
instant_by z e = let p = and_parts (int_le first_instant z) (int_le z last_instant) e in (omega (arith, ints, p.0), omega (arith, ints, p.1))

pub record TimesFit (t : Table) : Type 0 where
  pub chunk : IsInstant t.chunk
  pub each : (i : ℕ) → i < length t.times → IsInstant (get_or t.times i (pos 0))
  pub in_chunk : (i : ℕ) → i < length t.times → t.chunk ≤ℤ get_or t.times i (pos 0)

pub times_checked : (bytes : List ℕ) → AreChecked bytes → TimesFit (read_table bytes)
times_checked bytes checked =
    let t : Table = read_table bytes in
    let a = and_parts (is_instant t.chunk) (list_all is_instant t.times && int_le t.chunk (get_or t.times 0 (pos 0))) checked.times in
    let b = and_parts (list_all is_instant t.times) (int_le t.chunk (get_or t.times 0 (pos 0))) a.1 in
    let first : t.chunk ≤ℤ get_or t.times 0 (pos 0) = omega (arith, ints, b.1) in
    record {
      chunk = instant_by t.chunk a.0;
      each = λ i lt. instant_by _ (all_at is_instant t.times i (pos 0) b.0 lt);
      in_chunk = λ i lt. (let e : get_or t.times (0 + i) (pos 0) ≡ get_or t.times i (pos 0) = ap (λ k. get_or t.times k (pos 0)) (omega arith) in
          let up = times_up t.rollup t.times (parts_in bytes) 0 i checked.ranks (omega (arith, lt)) in omega (arith, ints, first, up, e));
    }

row_is_of : (bytes : List ℕ) → AreBytes bytes → AreChecked bytes → (i : ℕ) → i < length (read_table bytes).times → IsRowOf (sealed_by (read_table bytes)) (row_at (read_table bytes) i)
unfolding row_at
row_is_of bytes fits checked i lt =
    let t : Table = read_table bytes in
    let times = times_checked bytes checked in
    record {
      dims = length-map t.dims (λ c. value_at c i);
      texts = All-from_recursion IsUtf8 (map (λ c. value_at c i) t.dims) (row_utf8 (length t.times) i t.dims lt (all_listed t (is_table bytes checked)));
      metrics = length-map t.metrics (λ (m : List ℤ). get_or m i (pos 0));
      in_range = All-from_recursion (FitsSigned w64) (map (λ m. get_or m i (pos 0)) t.metrics) (row_fits t.metrics i (metrics_seen_fit bytes fits));
      time = times.each i lt;
      in_chunk = times.in_chunk i lt;
    }

rows_are_of : (bytes : List ℕ) → AreBytes bytes → AreChecked bytes → All (IsRowOf (sealed_by (read_table bytes))) (rows_of (read_table bytes))
rows_are_of bytes fits checked =
    let t : Table = read_table bytes in
    All-from_get_or (IsRowOf (sealed_by t)) (rows_of t) (row_at t 0) (λ i lt.
    let below : i < length t.times = omega (arith, lt, length-map-range_with_len (row_at t) 0 (length t.times)) in
    subst (IsRowOf (sealed_by t)) (sym (get_or-map-range_with_len (row_at t) 0 (length t.times) i i (row_at t 0) below (omega arith))) (row_is_of bytes fits checked i below))

wide_fits : (at : ℕ) (bytes : List ℕ) → AreBytes bytes → word_at w64 at bytes < 2 ^ 64
unfolding word_at
wide_fits at bytes fits = eight_fit (take 8 (drop at bytes)) (bytes-take 8 (drop at bytes) (bytes-drop at bytes fits))

all_events : (h : Header) → counts_fit h ≡ true → h.rollup ≡ false → h.rows ≡ h.to - h.from
all_events h fit apart =
    let a = and_parts (nat_le 1 h.rows) _ fit in
    let b = and_parts (nat_le 1 h.dims) _ a.1 in
    let c = and_parts (nat_le h.dims 64) _ b.1 in
    let d = and_parts (nat_le h.metrics 64) _ c.1 in
    let e = and_parts (nat_lt h.from h.to) _ d.1 in
    let f = and_parts (nat_le h.rows (h.to - h.from)) _ e.1 in
    eqb-true _ _ (ap (λ r. r || (h.rows == h.to - h.from)) (sym apart) ∙ f.1)

dims_are : (bytes : List ℕ) → map column_in (parts_in bytes) ≡ (read_table bytes).dims
unfolding read_table
dims_are bytes = refl

pub has_image : (bytes : List ℕ) → AreBytes bytes → IsOpen bytes → HasImage (sealed_by (read_table bytes))
has_image bytes fits opens =
    let t : Table = read_table bytes in
    let h : Header = header_of bytes in
    let headed = headed_by bytes opens.frame in
    let counts = counted h headed.counts in
    let some = counts.some_row in
    let dims : length t.dims ≡ h.dims = dims_seen bytes ∙ sym (length-parts_in bytes h refl) in
    let metrics : length t.metrics ≡ h.metrics = sym (length-metrics_in bytes h refl) in
    let times : length t.times ≡ h.rows = times_seen bytes in
    let rows : length (rows_of t) ≡ length t.times = length-map-range_with_len (row_at t) 0 (length t.times) in
    let from : t.from ≡ h.from = from_in bytes in
    let to : t.to ≡ h.to = to_in bytes in
    let n = header_numbers bytes in
    let from_is : h.from ≡ word_at w64 24 bytes = ap (λ (k : Header). k.from) n in
    let to_is : h.to ≡ word_at w64 32 bytes = ap (λ (k : Header). k.to) n in
    let c1 = counts.some_dimension in
    let c2 = counts.few_dimensions in
    let c3 = counts.few_metrics in
    let c4 = counts.few_rows in
    let bounds = times_checked bytes opens.checked in
    record {
      some_dimension = omega (arith, dims, c1);
      few_dimensions = omega (arith, dims, c2);
      few_metrics = omega (arith, metrics, c3);
      chunk = bounds.chunk;
      from_fits = omega (arith, from, from_is, wide_fits 24 bytes fits);
      to_fits = omega (arith, to, to_is, wide_fits 32 bytes fits);
      some_row = omega (arith, rows, times, some);
      few_rows = omega (arith, rows, times, from, to, c4);
      each_event = λ apart. (let e = all_events h headed.counts (sym (rollup_in bytes) ∙ apart) in omega (arith, rows, times, from, to, e));
      rows = rows_are_of bytes fits opens.checked;
      order = order_is t (parts_in bytes) (omega (arith, times, some)) (dims_are bytes) (all_listed t (is_table bytes opens.checked)) ∙ opens.checked.ranks;
    }

pub opened_is_image : (bytes : List ℕ) (t : Table) → AreBytes bytes → open_of bytes ≡ Ok t → IsImageOf bytes (sealed_by t)
opened_is_image bytes t fits e =
    let opens = opened bytes t e in
    let headed = headed_by bytes opens.frame in
    let r : IsImageOf bytes (sealed_by (read_table bytes)) = record {
      has = has_image bytes fits opens;
      few = headed.short;
      is = whole bytes fits opens ∙ ap bytes_of (sym (table_again (read_table bytes) (is_table bytes opens.checked)));
    } in
    subst (λ k. IsImageOf bytes (sealed_by k)) (opened_as bytes t e) r
