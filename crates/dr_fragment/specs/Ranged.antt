-- A range of a chunk's list of events, rolled up.
use Rattle.std.specs.Prelude.{ℕ, ℤ, List, Result, Ok}
use Rattle.dr_base.specs.Reading.{◌>>=◌}
use Rattle.dr_base.specs.declared.row.Row.{Row}
use Rattle.dr_image.specs.declared.image_error.ImageError.{ImageError}
use Rattle.dr_image.specs.Table.{Table, rows_of}
use Rattle.dr_image.specs.Sealed.{Sealed}
use Rattle.dr_image.specs.Opening.{open_of}

-- the start of the chunk, the range of its list of events, and the rows in the order of their keys
pub record Ranged : Type 0 where
  pub chunk : ℤ
  pub from : ℕ
  pub to : ℕ
  pub rows : List Row

-- the range that columns stand for, and that a sealed range is
abbrev pub range_in : Table → Ranged
range_in t = record { chunk = t.chunk; from = t.from; to = t.to; rows = rows_of t }

abbrev pub range_sealed : Sealed → Ranged
range_sealed s = record { chunk = s.chunk; from = s.from; to = s.to; rows = s.rows }

-- the range whose image the bytes are, or why they are no image
abbrev pub range_opened : List ℕ → Result Ranged ImageError
range_opened bytes = do
  table ← open_of bytes
  Ok (range_in table)
