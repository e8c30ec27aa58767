-- Rows of segments, which are given by the rows of each, by their places. No public contract cites this file.
use Rattle.std.specs.Prelude.{◌≡◌, ◌<◌, ℕ, zero, suc, ◌+◌, List, [], ◌∷◌, ◌++◌, length, if◌then◌else◌}
use Rattle.std.specs.List.{flat_map}
use Rattle.std.specs.declared.cmp.Ordering.{Ordering}
use Rattle.dr_base.specs.declared.row.Row.{Row}
use Rattle.dr_answers.specs.Selection.{selected, selects}
use Rattle.dr_ask.specs.Asked.{Asked}
use Rattle.dr_ask.specs.declared.time_order.TimeOrder.{TimeOrder}
use Rattle.dr_scan.specs.declared.row_place.RowPlace.{RowPlace}
use Rattle.dr_scan.specs.Entries.{times_cmp}
use Rattle.dr_scan.specs.Rows.{row_in}

-- the rows of the segment at a place
abbrev pub rows_at : List (List Row) → ℕ → List Row
rows_at [] i = []
rows_at (g ∷ gs) zero = g
rows_at (g ∷ gs) (suc i) = rows_at gs i

-- the row at a place
abbrev pub row_of : List (List Row) → RowPlace → Row
row_of segments p = row_in (rows_at segments p.segment) p.row

-- there is such a row, and it has this time
pub record IsPlace (segments : List (List Row)) (p : RowPlace) : Type 0 where
  pub segment : p.segment < length segments
  pub row : p.row < length (rows_at segments p.segment)
  pub time : p.time ≡ (row_of segments p).key.time

abbrev pub places_cmp : TimeOrder → RowPlace → RowPlace → Ordering
places_cmp order a b = times_cmp order a.time b.time

-- the rows that a query selects
abbrev pub all_selected : Asked → List (List Row) → List Row
all_selected q segments = flat_map (selected q) segments

-- ---- place by place

-- of rows of a segment from that number on
abbrev pub places_in : Asked → ℕ → ℕ → List Row → List RowPlace
places_in q segment n [] = []
places_in q segment n (r ∷ rs) =
    if selects q r.key then record { time = r.key.time; segment = segment; row = n } ∷ places_in q segment (n + 1) rs else places_in q segment (n + 1) rs

-- of segments from that place on
abbrev pub places_over : Asked → ℕ → List (List Row) → List RowPlace
places_over q i [] = []
places_over q i (g ∷ gs) = places_in q i 0 g ++ places_over q (i + 1) gs
