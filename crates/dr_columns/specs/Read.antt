-- What aggregations read of the rows of an image.
use Rattle.std.specs.Prelude.{ℕ, ℤ, pos, map, get_or}
use Rattle.dr_image.specs.Words.{long}
use Rattle.dr_columns.specs.declared.values.Values.{Values}
use Rattle.dr_columns.specs.declared.values.Values.TheVariants.{Same, Column}
use Rattle.dr_columns.specs.declared.reading.Reading.{Reading}

-- what is read of a row, by its number
abbrev pub value_in : Values → ℕ → ℤ
value_in (Same value) i = value
value_in (Column cells) i = get_or (map long cells.now) i (pos 0)

abbrev pub read_at : Reading → ℕ → ℤ
read_at r i = value_in r.values i
