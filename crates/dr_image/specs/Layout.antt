-- Where the columns lie in the bytes of an image, whatever the bytes are.
use Rattle.std.specs.Prelude.{ℕ, ℤ, zero, suc, ◌+◌, ◌*◌, ◌==◌, Bool, ◌&&◌, nat_le, List, [], ◌∷◌, length, map, take, drop}
use Rattle.std.specs.Int.{w16, w32, w64, cast_signed}
use Rattle.dr_image.specs.declared.header.Header.{Header}
use Rattle.dr_image.specs.Words.{word_at, words, longs}
use Rattle.dr_image.specs.Pieces.{pieces}
use Rattle.dr_image.specs.Table.{Column, Table}

-- the numbers in front
unfoldable pub header_of : List ℕ → Header
header_of bytes = record {
  rollup = word_at w16 6 bytes == 1;
  chunk = cast_signed w64 (word_at w64 16 bytes);
  from = word_at w64 24 bytes;
  to = word_at w64 32 bytes;
  dims = word_at w16 40 bytes;
  metrics = word_at w16 42 bytes;
  rows = word_at w32 44 bytes;
}

-- where the metrics and the dimensions begin
abbrev pub times_at : ℕ
times_at = 48

abbrev pub metrics_at : Header → ℕ
metrics_at h = times_at + 8 * h.rows

abbrev pub dims_at : Header → ℕ
dims_at h = metrics_at h + 8 * h.rows * h.metrics

-- a dimension as it lies there: the ends of its texts, the texts, the number of each row's value, the ends of its row lists, and
-- these
pub record Part : Type 0 where
  pub ends : List ℕ
  pub texts : List ℕ
  pub numbers : List ℕ
  pub list_ends : List ℕ
  pub rows : List ℕ

-- how many values it has, and how many bytes these have
abbrev pub values_in : List ℕ → ℕ
values_in bytes = word_at w32 0 bytes

abbrev pub texts_in : List ℕ → ℕ
texts_in bytes = word_at w32 4 bytes

-- the dimension of v texts of t bytes in all, of n rows, at the front
abbrev pub part_with : ℕ → ℕ → ℕ → List ℕ → Part
part_with v t n bytes = record {
  ends = words v bytes;
  texts = take t (drop (4 * v) bytes);
  numbers = words n (drop (4 * v + t) bytes);
  list_ends = words v (drop (4 * v + t + 4 * n) bytes);
  rows = words n (drop (8 * v + t + 4 * n) bytes);
}

-- the dimension of n rows at the front, behind these two numbers
unfoldable pub part_of : ℕ → List ℕ → Part
part_of n bytes = part_with (values_in bytes) (texts_in bytes) n (drop 8 bytes)

unfoldable pub part_size : ℕ → List ℕ → ℕ
part_size n bytes = 8 + 8 * values_in bytes + texts_in bytes + 8 * n

-- d dimensions, one behind the other
unfoldable pub parts_of : ℕ → ℕ → List ℕ → List Part
parts_of zero n bytes = []
parts_of (suc d) n bytes = part_of n bytes ∷ parts_of d n (drop (part_size n bytes) bytes)

-- what lies behind d dimensions
unfoldable pub behind : ℕ → ℕ → List ℕ → List ℕ
behind zero n bytes = bytes
behind (suc d) n bytes = behind d n (drop (part_size n bytes) bytes)

-- d dimensions fill the bytes up to the digest
unfoldable pub parts_fill : ℕ → ℕ → List ℕ → Bool
parts_fill zero n bytes = length bytes == 32
parts_fill (suc d) n bytes = nat_le (part_size n bytes + 32) (length bytes) && parts_fill d n (drop (part_size n bytes) bytes)

-- m metrics of n rows, one behind the other
unfoldable pub metrics_of : ℕ → ℕ → List ℕ → List (List ℤ)
metrics_of zero n bytes = []
metrics_of (suc m) n bytes = longs n bytes ∷ metrics_of m n (drop (8 * n) bytes)

abbrev pub column_in : Part → Column
column_in p = record { dictionary = pieces 0 p.ends p.texts; numbers = p.numbers; lists = pieces 0 p.list_ends p.rows }

-- how many rows an image says that it has
abbrev pub rows_in : List ℕ → ℕ
rows_in bytes = (header_of bytes).rows

-- the dimensions of an image
abbrev pub parts_in : List ℕ → List Part
parts_in bytes = let h : Header = header_of bytes in parts_of h.dims h.rows (drop (dims_at h) bytes)

-- all of its columns
unfoldable pub read_table : List ℕ → Table
read_table bytes = let h : Header = header_of bytes in record {
  rollup = h.rollup;
  chunk = h.chunk;
  from = h.from;
  to = h.to;
  times = longs h.rows (drop times_at bytes);
  metrics = metrics_of h.metrics h.rows (drop (metrics_at h) bytes);
  dims = map column_in (parts_in bytes);
}
