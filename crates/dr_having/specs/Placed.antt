-- Outputs that are asked at the place of another one with the same number. No public contract cites this file.
use Rattle.std.specs.Prelude.{◌≡◌, ℕ, List, slice_get, unwrap_or}
use Rattle.dr_having.specs.declared.group_value.GroupValue.{GroupValue}

-- the place that an output is asked at: the same where there is none
abbrev pub place_in : List ℕ → ℕ → ℕ
place_in places place = unwrap_or (slice_get places place) place

abbrev pub value_placed : List ℕ → GroupValue → GroupValue
value_placed places c = record { place = place_in places c.place; comparison = c.comparison; value = c.value }

-- at each of the places stands the number of the output that is asked there
abbrev pub HaveNumbers : List ℕ → List ℕ → Type 0
HaveNumbers numbers places = (p : ℕ) → slice_get numbers (place_in places p) ≡ slice_get numbers p
