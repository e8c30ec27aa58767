-- Rows that are told of part by part, or one by one. No public contract cites this file.
use Rattle.std.specs.Prelude.{◌≡◌, ℕ, ◌-◌, ◌<◌, ◌≤◌, ◌||◌, ◌&&◌, Bool, false, List, length, get_or}

-- the rows of a part that stand from a place on, up to another, are added
pub record AddsPart (part : List Bool) (from to : ℕ) (before after : List Bool) : Type 0 where
  pub count : length after ≡ length before
  pub before_it : (i : ℕ) → i < from → get_or after i false ≡ get_or before i false
  pub in_it : (i : ℕ) → from ≤ i → i < to → get_or after i false ≡ (get_or before i false || get_or part (i - from) false)
  pub behind_it : (i : ℕ) → to ≤ i → get_or after i false ≡ get_or before i false

-- of the rows that were told of those are left whose value passes a test
pub record Keeps {V : Type 0} (test : V → Bool) (rows : List V) (before after : List Bool) : Type 0 where
  pub count : length after ≡ length rows
  pub each : (i : ℕ) (row : V) → i < length rows → get_or after i false ≡ (get_or before i false && test (get_or rows i row))
