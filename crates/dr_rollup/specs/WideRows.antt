-- Rows in flat lists, row after row: their times, their dimension values and their metrics. No public contract cites this file.
use Rattle.std.specs.Prelude.{ℕ, ◌+◌, ℤ, List, [], ◌∷◌, ◌++◌, length, take, drop, map}
use Rattle.dr_base.specs.declared.key.Key.{Key}
use Rattle.dr_base.specs.declared.row.Row.{Row}

-- how many dimension values and how many metrics each row has, and the rows
pub record WideRows : Type 0 where
  pub dimensions : ℕ
  pub width : ℕ
  pub rows : List Row

-- each time with the next dimension values of a list, as many as a row has
abbrev pub keys_from : ℕ → List ℤ → List (List ℕ) → List Key
keys_from dimensions [] dims = []
keys_from dimensions (t ∷ times) dims = record { time = t; dims = take dimensions dims } ∷ keys_from dimensions times (drop dimensions dims)

-- each key with the next values of a list, as many as a row has
abbrev pub rows_from : ℕ → List Key → List ℤ → List Row
rows_from width [] values = []
rows_from width (k ∷ keys) values = record { key = k; metrics = take width values } ∷ rows_from width keys (drop width values)

-- values written over others from a place on
abbrev pub written : ℕ → List ℤ → List ℤ → List ℤ
written place new values = take place values ++ (new ++ drop (place + length new) values)

-- other rows under the same numbers
abbrev pub wide_with : WideRows → List Row → WideRows
wide_with wide rows = record wide { rows = rows }

-- the keys of the rows
abbrev pub keys_in : WideRows → List Key
keys_in wide = map (λ r. r.key) wide.rows
