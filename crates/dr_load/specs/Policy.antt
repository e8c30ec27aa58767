-- Which ranges are published while files are loaded. No public contract cites this file.
use Rattle.std.specs.Prelude.{ℕ, ℤ, suc, nat_lt, ◌&&◌, Option, Some, None, List, [], ◌∷◌, if◌then◌else◌}
use Rattle.std.specs.Ordering.{int_eq}
use Rattle.dr_cuts.specs.declared.range_info.RangeInfo.{RangeInfo}

-- how many sealed ranges of a chunk stand first
abbrev pub leading : ℤ → List RangeInfo → ℕ
leading k [] = 0
leading k (range ∷ ranges) = if int_eq range.chunk k && range.sealed then suc (leading k ranges) else 0

-- the first chunk of which two sealed ranges stand side by side, and how many do
abbrev pub crowded : List RangeInfo → Option (ℤ × ℕ)
crowded [] = None
crowded (range ∷ ranges) =
    if range.sealed && nat_lt 0 (leading range.chunk ranges) then Some (range.chunk, suc (leading range.chunk ranges)) else crowded ranges
