-- Columns that are to be written, and when they stand for rows.
use Rattle.std.specs.Prelude.{◌≡◌, ℕ, ◌<◌, true, List, [], length, map, get_or, All, Contains}
use Rattle.std.specs.Str.{IsUtf8}
use Rattle.dr_image.specs.Table.{Column, Table}
use Rattle.dr_image.specs.Sealed.{each_next}
use Rattle.dr_image.specs.Image.{lists_of}
use Rattle.dr_image.specs.Opening.{is_below}
use Rattle.dr_image.specs.Checked.{column_at}
use Rattle.dr_segment.specs.declared.dimension.Dimension.{Dimension}
use Rattle.dr_segment.specs.declared.columns.Columns.{Columns}

-- a dimension, by its dictionary and the number of each row's value
abbrev pub column_with : List (List ℕ) → List ℕ → Column
column_with dictionary numbers = record { dictionary = dictionary; numbers = numbers; lists = lists_of (length dictionary) numbers }

abbrev pub column_seen : Dimension → Column
column_seen c = column_with (map (λ t. t.now) c.dictionary.items) c.numbers.items

abbrev pub table_seen : Columns → Table
table_seen c = record { rollup = c.rollup; chunk = c.chunk; from = c.from; to = c.to; times = c.times.items; metrics = map (λ m. m.items) c.metrics.items; dims = map column_seen c.dims.items }

-- a dimension of n rows: texts that ascend, and for each row the number of one, each of them the value of some row
pub record IsDimensionOf (n : ℕ) (c : Column) : Type 0 where
  pub long : length c.numbers ≡ n
  pub texts : All IsUtf8 c.dictionary
  pub rises : each_next is_below c.dictionary ≡ true
  pub known : All (λ v. v < length c.dictionary) c.numbers
  pub used : (v : ℕ) → v < length c.dictionary → Contains c.numbers v

-- as many values of each metric and numbers of each dimension as times
pub record StandForRows (t : Table) : Type 0 where
  pub metrics : (m : ℕ) → m < length t.metrics → length (get_or t.metrics m []) ≡ length t.times
  pub dims : (d : ℕ) → d < length t.dims → IsDimensionOf (length t.times) (column_at t d)
