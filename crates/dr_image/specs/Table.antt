-- What an image stands for, column by column (Apache Druid documentation, segments: a time column, metric columns, and for
-- each dimension a dictionary, a column of dictionary numbers, and for each value the rows that have it).
use Rattle.std.specs.Prelude.{ℕ, ℤ, pos, Bool, List, [], length, map, get_or}
use Rattle.std.specs.List.{range_with_len}
use Rattle.dr_base.specs.declared.row.Row.{Row}

-- a dimension: its values, the number of each row's value, and for each value the numbers of the rows that have it
pub record Column : Type 0 where
  pub dictionary : List (List ℕ)
  pub numbers : List ℕ
  pub lists : List (List ℕ)

abbrev pub no_column : Column
no_column = record { dictionary = []; numbers = []; lists = [] }

pub record Table : Type 0 where
  pub rollup : Bool
  pub chunk : ℤ
  pub from : ℕ
  pub to : ℕ
  pub times : List ℤ
  pub metrics : List (List ℤ)
  pub dims : List Column

-- the value that a row has in a dimension
abbrev pub value_at : Column → ℕ → List ℕ
value_at column i = get_or column.dictionary (get_or column.numbers i 0) []

-- a row, by its number from 0
unfoldable pub row_at : Table → ℕ → Row
row_at t i = record { key = record { time = get_or t.times i (pos 0); dims = map (λ c. value_at c i) t.dims }; metrics = map (λ m. get_or m i (pos 0)) t.metrics }

-- the rows in their order
abbrev pub rows_of : Table → List Row
rows_of t = map (row_at t) (range_with_len 0 (length t.times))
