-- The bytes of an image, version 1. All numbers stand with the lowest byte first.
use Rattle.std.specs.Prelude.{ℕ, ℤ, pos, suc, ◌+◌, List, [], ◌∷◌, ◌++◌, length, map, get_or, bytes_eq, ◌==◌, if◌then◌else◌}
use Rattle.std.specs.List.{flat_map, range_with_len}
use Rattle.std.specs.Int.{w16, w32, w64, to_le_bytes}
use Rattle.std.specs.Ordering.{nat_cmp, is_lt}
use Rattle.std.specs.Cmp.Lexicographic.{slice_cmp}
use Rattle.dr_base.specs.declared.row.Row.{Row}
use Rattle.sha2.specs.Sha256.{sha256}
use Rattle.dr_image.specs.Words.{four_bytes, eight_bytes, spelled_words, spelled_longs}
use Rattle.dr_image.specs.Pieces.{ends_from}
use Rattle.dr_image.specs.Table.{Column, Table}
use Rattle.dr_image.specs.Sealed.{Sealed}

-- DRSG
abbrev pub magic : ℕ
magic = 0x47535244

-- ---- the columns of rows

-- a text put into a list that ascends, where it isn't there
unfoldable pub with_value : List ℕ → List (List ℕ) → List (List ℕ)
with_value v [] = v ∷ []
with_value v (w ∷ ws) = if is_lt (slice_cmp nat_cmp v w) then v ∷ w ∷ ws else (if bytes_eq v w then w ∷ ws else w ∷ with_value v ws)

-- the distinct texts, ascending by their bytes
unfoldable pub dictionary_of : List (List ℕ) → List (List ℕ)
dictionary_of [] = []
dictionary_of (v ∷ vs) = with_value v (dictionary_of vs)

-- the place of a text in a list that has it
unfoldable pub number_in : List (List ℕ) → List ℕ → ℕ
number_in [] v = 0
number_in (w ∷ ws) v = if bytes_eq v w then 0 else suc (number_in ws v)

-- the places at which a number stands, from a place on
unfoldable pub rows_with : ℕ → ℕ → List ℕ → List ℕ
rows_with i v [] = []
rows_with i v (n ∷ ns) = if n == v then i ∷ rows_with (i + 1) v ns else rows_with (i + 1) v ns

-- for each of so many numbers the places at which it stands
abbrev pub lists_of : ℕ → List ℕ → List (List ℕ)
lists_of count numbers = map (λ v. rows_with 0 v numbers) (range_with_len 0 count)

-- a dimension, by its dictionary and the values of the rows
abbrev pub column_by : List (List ℕ) → List (List ℕ) → Column
column_by dictionary values = record { dictionary = dictionary; numbers = map (number_in dictionary) values; lists = lists_of (length dictionary) (map (number_in dictionary) values) }

-- a dimension, by the values of the rows
abbrev pub column_of : List (List ℕ) → Column
column_of values = column_by (dictionary_of values) values

-- the values of the rows in a dimension and in a metric
abbrev pub values_of : ℕ → List Row → List (List ℕ)
values_of d rows = map (λ r. get_or r.key.dims d []) rows

abbrev pub metric_of : ℕ → List Row → List ℤ
metric_of m rows = map (λ r. get_or r.metrics m (pos 0)) rows

unfoldable pub table_of : Sealed → Table
table_of s = record {
  rollup = s.rollup;
  chunk = s.chunk;
  from = s.from;
  to = s.to;
  times = map (λ r. r.key.time) s.rows;
  metrics = map (λ m. metric_of m s.rows) (range_with_len 0 s.metrics);
  dims = map (λ d. column_of (values_of d s.rows)) (range_with_len 0 s.dims);
}

-- ---- the bytes of columns

abbrev pub joined : {A : Type 0} → List (List A) → List A
joined xss = flat_map (λ xs. xs) xss

unfoldable pub bytes_of_column : Column → List ℕ
bytes_of_column c =
    four_bytes (length c.dictionary) ++ (four_bytes (length (joined c.dictionary)) ++ (spelled_words (ends_from 0 c.dictionary) ++ (joined c.dictionary
    ++ (spelled_words c.numbers ++ (spelled_words (ends_from 0 c.lists) ++ spelled_words (joined c.lists))))))

-- the columns, one behind the other
unfoldable pub data_of : Table → List ℕ
data_of t = spelled_longs t.times ++ (flat_map spelled_longs t.metrics ++ flat_map bytes_of_column t.dims)

-- what stands before them: 48 bytes; the digest behind them has 32
unfoldable pub head_of : Table → List ℕ
head_of t =
    to_le_bytes w32 magic ++ (to_le_bytes w16 1 ++ (to_le_bytes w16 (if t.rollup then 1 else 0) ++ (to_le_bytes w64 (80 + length (data_of t))
    ++ (eight_bytes t.chunk ++ (to_le_bytes w64 t.from ++ (to_le_bytes w64 t.to
    ++ (to_le_bytes w16 (length t.dims) ++ (to_le_bytes w16 (length t.metrics) ++ to_le_bytes w32 (length t.times)))))))))

-- with the digest behind (FIPS 180-4)
abbrev pub with_digest : List ℕ → List ℕ
with_digest bytes = bytes ++ sha256 bytes

unfoldable pub bytes_of : Table → List ℕ
bytes_of t = with_digest (head_of t ++ data_of t)

-- the one image of a sealed range
abbrev pub image : Sealed → List ℕ
image s = bytes_of (table_of s)
