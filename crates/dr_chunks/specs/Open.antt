-- An open range, and what it keeps. The public calls of this crate are stated by it, and no contract above it.
use Rattle.std.specs.Prelude.{◌≡◌, ◌<◌, List, [], Option, Some, None, length}
use Rattle.dr_base.specs.declared.row.Row.{Row}
use Rattle.dr_schema.specs.declared.schema.Schema.{Schema}
use Rattle.dr_rollup.specs.OpenRows.{OpenRows}

-- an open range with these rows
abbrev pub index_of : Schema → List Row → OpenRows
index_of schema rows = record { schema = schema; limit = schema.limits.max_rows_in_memory; rows = rows }

-- the rows of an index; none without one
abbrev pub rows_kept : Option OpenRows → List Row
rows_kept None = []
rows_kept (Some index) = index.rows

-- an index of the schema with room for one more row
abbrev pub IsOpenIndex : Schema → OpenRows → Type 0
IsOpenIndex schema index = (index ≡ index_of schema index.rows) × (length index.rows < schema.limits.max_rows_in_memory)
