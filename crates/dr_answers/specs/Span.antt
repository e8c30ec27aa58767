-- From when to when rows last.
use Rattle.std.specs.Prelude.{ℤ, List, Option, Some, None, map}
use Rattle.std.specs.Int.{int_min, int_max}
use Rattle.std.specs.List.{fold}
use Rattle.dr_base.specs.declared.row.Row.{Row}

-- the span of both; either may be none
abbrev pub wider : Option (ℤ × ℤ) → Option (ℤ × ℤ) → Option (ℤ × ℤ)
wider None b = b
wider (Some a) None = Some a
wider (Some a) (Some b) = Some (int_min a.0 b.0, int_max a.1 b.1)

-- from the least to the greatest time of the rows, both included; none for no rows
abbrev pub span : List Row → Option (ℤ × ℤ)
span rows = fold wider None (map (λ r. Some (r.key.time, r.key.time)) rows)
