-- A row among others. No public contract cites this file.
use Rattle.std.specs.Prelude.{ℕ, pos, List, [], slice_get, unwrap_or}
use Rattle.dr_base.specs.declared.row.Row.{Row}

-- where there is none
abbrev pub no_row : Row
no_row = record { key = record { time = pos 0; dims = [] }; metrics = [] }

-- the row of a number, from 0; past the end it is none
abbrev pub row_in : List Row → ℕ → Row
row_in rows i = unwrap_or (slice_get rows i) no_row
