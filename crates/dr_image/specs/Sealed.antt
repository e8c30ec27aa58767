-- A sealed range of a chunk, and which of them have an image.
use Rattle.std.specs.Prelude.{◌≡◌, ℕ, ℤ, ◌-◌, ◌<◌, ◌^◌, ◌≤◌, ◌≤ℤ◌, Bool, true, false, ◌&&◌, List, [], ◌∷◌, length, All, FitsSigned}
use Rattle.std.specs.Int.{w64}
use Rattle.std.specs.Str.{IsUtf8}
use Rattle.std.specs.Ordering.{is_lt, is_le}
use Rattle.std.specs.declared.cmp.Ordering.{Ordering}
use Rattle.dr_base.specs.declared.row.Row.{Row}
use Rattle.dr_base.specs.Order.{key_cmp}
use Rattle.dr_time.specs.Instant.{IsInstant}

-- how many dimensions and metrics there are, whether rows are rolled up, the chunk's start, the range of the chunk's events,
-- and the rows
pub record Sealed : Type 0 where
  pub rollup : Bool
  pub dims : ℕ
  pub metrics : ℕ
  pub chunk : ℤ
  pub from : ℕ
  pub to : ℕ
  pub rows : List Row

-- each neighbour of a list is so to the next
unfoldable pub each_next : {A : Type 0} → (A → A → Bool) → List A → Bool
each_next r [] = true
each_next r (x ∷ []) = true
each_next r (x ∷ y ∷ ys) = r x y && each_next r (y ∷ ys)

-- with rollup rows rise, without it they don't fall
abbrev pub goes_on : Bool → Ordering → Bool
goes_on true o = is_lt o
goes_on false o = is_le o

abbrev pub may_follow : Bool → Row → Row → Bool
may_follow rollup a b = goes_on rollup (key_cmp a.key b.key)

-- a row of so many dimensions and metrics, in the chunk
pub record IsRowOf (s : Sealed) (r : Row) : Type 0 where
  pub dims : length r.key.dims ≡ s.dims
  pub texts : All IsUtf8 r.key.dims
  pub metrics : length r.metrics ≡ s.metrics
  pub in_range : All (FitsSigned w64) r.metrics
  pub time : IsInstant r.key.time
  pub in_chunk : s.chunk ≤ℤ r.key.time

-- what has an image: rows in order, as many as the range can have
pub record HasImage (s : Sealed) : Type 0 where
  pub some_dimension : 1 ≤ s.dims
  pub few_dimensions : s.dims ≤ 64
  pub few_metrics : s.metrics ≤ 64
  pub chunk : IsInstant s.chunk
  pub from_fits : s.from < 2 ^ 64
  pub to_fits : s.to < 2 ^ 64
  pub some_row : 1 ≤ length s.rows
  pub few_rows : length s.rows ≤ s.to - s.from
  pub each_event : s.rollup ≡ false → length s.rows ≡ s.to - s.from
  pub rows : All (IsRowOf s) s.rows
  pub order : each_next (may_follow s.rollup) s.rows ≡ true
