-- The rows of an image one by one, and what is told of each.
use Rattle.std.specs.Prelude.{◌≡◌, ℕ, ◌-◌, ◌<◌, ◌&&◌, ◌==◌, Bool, false, List, length, map, get_or, nat_lt, Option, Some, None, if◌then◌else◌}
use Rattle.std.specs.List.{range_with_len, list_all}
use Rattle.dr_base.specs.declared.key.Key.{Key}
use Rattle.dr_base.specs.declared.row.Row.{Row}
use Rattle.dr_image.specs.Table.{Table, row_at}
use Rattle.dr_image.specs.Words.{word}
use Rattle.dr_columns.specs.declared.numbered.Numbered.{Numbered}
use Rattle.dr_filter.specs.Condition.{Condition, matches}

-- the key of a row
abbrev pub key_at : Table → ℕ → Key
key_at t i = (row_at t i).key

-- the rows from a number on, up to another
abbrev pub rows_between : Table → ℕ → ℕ → List Row
rows_between t from to = map (row_at t) (range_with_len from (to - from))

-- a row meets a condition
abbrev pub meets : Table → Condition → ℕ → Bool
meets t condition i = matches (key_at t i).time (key_at t i).dims condition

-- what was true stays so just where a test holds
pub record Narrows (test : ℕ → Bool) (before after : List Bool) : Type 0 where
  pub count : length after ≡ length before
  pub each : (i : ℕ) → i < length before → get_or after i false ≡ (get_or before i false && test i)

-- the place of a dimension that an image has
abbrev pub known_place : Option ℕ → ℕ → Option ℕ
known_place None n = None
known_place (Some d) n = if nat_lt d n then Some d else None

-- the number of a row's value, and the truth that is told of this number
abbrev pub number_in : List (List ℕ) → ℕ → ℕ
number_in numbers i = get_or (map word numbers) i 0

abbrev pub truth_in : List (List ℕ) → List Bool → Bool → ℕ → Bool
truth_in numbers truths otherwise i = get_or truths (number_in numbers i) otherwise

-- two rows have the same numbers in each of some columns
abbrev pub same_numbers : List Numbered → ℕ → ℕ → Bool
same_numbers columns i j = list_all (λ c. number_in c.numbers.now i == number_in c.numbers.now j) columns
