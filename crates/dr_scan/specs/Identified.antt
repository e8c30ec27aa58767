-- The rows of a segment.
use Rattle.std.specs.Prelude.{ℕ, List}
use Rattle.dr_base.specs.declared.row.Row.{Row}

-- its identifier, and its rows in order
pub record Identified : Type 0 where
  pub identifier : List ℕ
  pub rows : List Row
