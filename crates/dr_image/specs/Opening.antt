-- How bytes are opened as an image: the checks in their order, and what is read. The first check that fails is the refusal.
use Rattle.std.specs.Prelude.{ℕ, ℤ, pos, ◌+◌, ◌-◌, ◌==◌, Bool, true, ◌&&◌, ◌||◌, nat_le, nat_lt, int_le, bytes_eq, List, [], ◌∷◌, length, map, take, drop, get_or, Result, Ok, Err, if◌then◌else◌}
use Rattle.std.specs.List.{list_all, range_with_len}
use Rattle.std.specs.Int.{w16, w32, w64}
use Rattle.std.specs.Str.{is_utf8}
use Rattle.std.specs.Ordering.{nat_cmp, int_cmp, ordering_then, is_lt}
use Rattle.std.specs.declared.cmp.Ordering.{Ordering}
use Rattle.std.specs.Cmp.Lexicographic.{slice_cmp}
use Rattle.dr_base.specs.Reading.{◌>>=◌}
use Rattle.dr_time.specs.Instant.{is_instant}
use Rattle.sha2.specs.Sha256.{sha256}
use Rattle.dr_image.specs.declared.image_error.ImageError.{ImageError}
use Rattle.dr_image.specs.declared.image_error.ImageError.TheVariants.{Truncated, BadMagic, BadVersion, BadLength, DictOrder, NumberOutOfDict, RowOrder, BadIndex, DigestMismatch}
use Rattle.dr_image.specs.declared.header.Header.{Header}
use Rattle.dr_image.specs.Words.{word_at}
use Rattle.dr_image.specs.Pieces.{pieces, ends_fit}
use Rattle.dr_image.specs.Table.{Table}
use Rattle.dr_image.specs.Sealed.{each_next, goes_on}
use Rattle.dr_image.specs.Image.{magic}
use Rattle.dr_image.specs.Layout.{Part, header_of, dims_at, parts_fill, parts_in, read_table}

-- a check, with its refusal
abbrev pub unless : ImageError → Bool → Result (Unit {0}) ImageError
unless e passes = if passes then Ok tt else Err e

-- ---- the lengths

abbrev pub is_version : List ℕ → Bool
is_version bytes = (word_at w16 4 bytes == 1) && nat_le (word_at w16 6 bytes) 1

-- 80 bytes are the header and the digest, and 2^30 is the most that an image has
abbrev pub is_length : List ℕ → Bool
is_length bytes = nat_le (length bytes) (word_at w64 8 bytes) && (nat_le 80 (word_at w64 8 bytes) && nat_le (word_at w64 8 bytes) 1073741824)

-- how many rows, dimensions and metrics there may be
abbrev pub counts_fit : Header → Bool
counts_fit h = nat_le 1 h.rows && (nat_le 1 h.dims && (nat_le h.dims 64 && (nat_le h.metrics 64 && (nat_lt h.from h.to && (nat_le h.rows (h.to - h.from) && (h.rollup || (h.rows == h.to - h.from)))))))

-- the columns fill the bytes
abbrev pub columns_fill : Header → List ℕ → Bool
columns_fill h bytes = nat_le (dims_at h + 32) (length bytes) && parts_fill h.dims h.rows (drop (dims_at h) bytes)

-- ---- the contents

abbrev pub is_below : List ℕ → List ℕ → Bool
is_below a b = is_lt (slice_cmp nat_cmp a b)

-- the texts are told apart by their ends, are UTF-8, and ascend
abbrev pub texts_fit : List (List ℕ) → Bool
texts_fit texts = list_all is_utf8 texts && each_next is_below texts

abbrev pub is_dictionary : Part → Bool
is_dictionary p = ends_fit 0 p.ends (length p.texts) && texts_fit (pieces 0 p.ends p.texts)

abbrev pub numbers_fit : Part → Bool
numbers_fit p = list_all (λ n. nat_lt n (length p.ends)) p.numbers

-- how two rows compare: by time, and then by the numbers of their values, which are in the order of the texts
abbrev pub numbers_at : List Part → ℕ → List ℕ
numbers_at parts i = map (λ p. get_or p.numbers i 0) parts

abbrev pub rank_cmp : List ℤ → List Part → ℕ → ℕ → Ordering
rank_cmp times parts i j = ordering_then (int_cmp (get_or times i (pos 0)) (get_or times j (pos 0))) (slice_cmp nat_cmp (numbers_at parts i) (numbers_at parts j))

-- the rows from a number on, each with the next
unfoldable pub ranks_fit : Bool → List ℤ → List Part → Bool
ranks_fit rollup times parts = list_all (λ i. goes_on rollup (rank_cmp times parts i (i + 1))) (range_with_len 0 (length times - 1))

abbrev pub times_fit : ℤ → List ℤ → Bool
times_fit chunk times = is_instant chunk && (list_all is_instant times && int_le chunk (get_or times 0 (pos 0)))

-- the numbers of rows rise from a least one, and each of the rows has the value
unfoldable pub rows_have : ℕ → ℕ → List ℕ → List ℕ → Bool
rows_have least v numbers [] = true
rows_have least v numbers (r ∷ rs) = nat_le least r && ((nat_lt r (length numbers) && (get_or numbers r 0 == v)) && rows_have (r + 1) v numbers rs)

-- a row list, and those from a value on
abbrev pub is_row_list : ℕ → List ℕ → List ℕ → Bool
is_row_list v numbers rs = nat_lt 0 (length rs) && rows_have 0 v numbers rs

unfoldable pub row_lists_fit : ℕ → List ℕ → List (List ℕ) → Bool
row_lists_fit v numbers [] = true
row_lists_fit v numbers (rs ∷ rss) = is_row_list v numbers rs && row_lists_fit (v + 1) numbers rss

abbrev pub is_index : Part → Bool
is_index p = ends_fit 0 p.list_ends (length p.rows) && row_lists_fit 0 p.numbers (pieces 0 p.list_ends p.rows)

-- ---- all of it

-- the marks, the length and the counts
unfoldable pub headed : List ℕ → Result Header ImageError
headed bytes = do
  long ← unless Truncated (nat_le 16 (length bytes))
  marked ← unless BadMagic (word_at w32 0 bytes == magic)
  known ← unless BadVersion (is_version bytes)
  whole ← unless Truncated (nat_le (word_at w64 8 bytes) (length bytes))
  bounded ← unless BadLength (is_length bytes)
  counted ← unless BadLength (counts_fit (header_of bytes))
  Ok (header_of bytes)

-- steps 1 to 3: these, and the columns fill the length
unfoldable pub framed : List ℕ → Result (Unit {0}) ImageError
framed bytes = do
  h ← headed bytes
  unless BadLength (columns_fill h bytes)

-- step 4: the last 32 bytes are the digest of all before
abbrev pub has_digest : List ℕ → Bool
has_digest bytes = bytes_eq (drop (length bytes - 32) bytes) (sha256 (take (length bytes - 32) bytes))

-- steps 5 to 8, each over all dimensions before the next
unfoldable pub filled : List ℕ → Result (Unit {0}) ImageError
filled bytes = do
  sorted ← unless DictOrder (list_all is_dictionary (parts_in bytes))
  numbered ← unless NumberOutOfDict (list_all numbers_fit (parts_in bytes))
  timed ← unless RowOrder (times_fit (read_table bytes).chunk (read_table bytes).times)
  ordered ← unless RowOrder (ranks_fit (read_table bytes).rollup (read_table bytes).times (parts_in bytes))
  unless BadIndex (list_all is_index (parts_in bytes))

-- what the bytes stand for, or why they are no image
unfoldable pub open_of : List ℕ → Result Table ImageError
open_of bytes = do
  whole ← framed bytes
  undamaged ← unless DigestMismatch (has_digest bytes)
  right ← filled bytes
  Ok (read_table bytes)
