-- Truths that are kept as the bits of words.
use Rattle.std.specs.Prelude.{◌≡◌, ℕ, ◌<◌, Bool, false, List, length, map, get_or}
use Rattle.std.specs.List.{range_with_len}
pub use Rattle.dr_bits.specs.Bits.{has_bit, truth_in}

-- the first so many bits of words
unfoldable pub truths : List ℕ → ℕ → List Bool
truths words count = map (truth_in words) (range_with_len 0 count)

-- what is told of each row by what was told of it before and what is told of it elsewhere
pub record Joined (op : Bool → Bool → Bool) (others before after : List Bool) : Type 0 where
  pub count : length after ≡ length before
  pub each : (i : ℕ) → i < length before → get_or after i false ≡ op (get_or before i false) (get_or others i false)
