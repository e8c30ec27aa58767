-- The places of a text at which a piece of a pattern stands, kept as the bits of words. No public contract cites this file.
use Rattle.std.specs.Prelude.{◌≡◌, ℕ, zero, suc, ◌+◌, ◌-◌, ◌*◌, ◌<◌, ◌≤◌, ◌&&◌, Bool, true, if◌then◌else◌, List, [], ◌∷◌, length, drop, nat_lt}
use Rattle.dr_like.specs.Like.{letter_fits, first_and_rest}
pub use Rattle.dr_bits.specs.Bits.{has_bit, truth_in}

-- the bit at a place of a word, counted from another place on, and on into the next word
abbrev pub bit_from : (word next bits : ℕ) → ℕ → Bool
bit_from word next bits k = if nat_lt (k + bits) 64 then has_bit word (k + bits) else has_bit next (k + bits - 64)

-- of each bit, whether it was there before and is there in the others, from a place of these on
abbrev pub IsKept : (word next bits before after : ℕ) → Type 0
IsKept word next bits before after = (k : ℕ) → k < 64 → has_bit after k ≡ (has_bit before k && bit_from word next bits k)

-- the piece of a pattern stands at the start of the text
abbrev pub begins : (piece text : List ℕ) → Bool
begins [] text = true
begins (p ∷ ps) text = first_and_rest (letter_fits p) (begins ps) text

-- of the letters of the piece those that stand so far apart, behind so many that are left out, fit the text
abbrev pub fits_comb : (space left : ℕ) (piece text : List ℕ) → Bool
fits_comb space left [] text = true
fits_comb space zero (p ∷ ps) text = first_and_rest (letter_fits p) (fits_comb space space ps) text
fits_comb space (suc left) (p ∷ ps) text = fits_comb space left ps (drop 1 text)

-- of so many places, the first of which is this one, it is told at which of them the piece stands
abbrev pub AreStanding : (words : List ℕ) (count place : ℕ) (piece text : List ℕ) → Type 0
AreStanding words count place piece text = (k : ℕ) → k < count → truth_in words k ≡ begins piece (drop (place + k) text)

-- words that hold so many places, and no word more
abbrev pub HoldJust : (count : ℕ) → List ℕ → Type 0
HoldJust count words = (0 < count) × (count ≤ 64 * length words) × (64 * length words < count + 64)
