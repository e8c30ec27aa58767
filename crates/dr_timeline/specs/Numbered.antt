-- Segments numbered one after the other. No public contract cites this file.
use Rattle.std.specs.Prelude.{ℕ, ℤ, ◌+◌, List, [], ◌∷◌, Option, Some, None, if◌then◌else◌}
use Rattle.std.specs.Ordering.{int_eq}
use Rattle.dr_base.specs.declared.row.Row.{Row}
use Rattle.dr_schema.specs.declared.schema.Schema.{Schema}
use Rattle.dr_scan.specs.Identified.{Identified}
use Rattle.dr_scan.specs.Identifier.{identifier_of}
use Rattle.dr_cuts.specs.declared.range_info.RangeInfo.{RangeInfo}

-- the place of a range of that chunk, behind one with this chunk and place
abbrev pub next_place : Option (ℤ × ℕ) → ℤ → ℕ
next_place None chunk = 0
next_place (Some last) chunk = if int_eq last.0 chunk then last.1 + 1 else 0

-- ranges with their rows, behind one with that chunk and place
abbrev pub numbered : Schema → Option (ℤ × ℕ) → List RangeInfo → List (List Row) → List Identified
numbered schema last [] held = []
numbered schema last (r ∷ rs) [] = []
numbered schema last (r ∷ rs) (rows ∷ held) =
    record { identifier = identifier_of schema r.chunk r.version (next_place last r.chunk); rows = rows }
    ∷ numbered schema (Some (r.chunk, next_place last r.chunk)) rs held
