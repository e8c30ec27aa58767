-- The bits of words.
use Rattle.std.specs.Prelude.{ℕ, ◌/◌, ◌%◌, Bool, List, get_or, eqb}
use Rattle.std.specs.Int.{bit_at}

-- the bit at a place of a word, counted from the lowest
abbrev pub has_bit : ℕ → ℕ → Bool
has_bit word k = eqb (bit_at word k) 1

-- the bit at a place of words of 64 bits, one behind the other; what lies behind them is 0
abbrev pub truth_in : List ℕ → ℕ → Bool
truth_in words i = has_bit (get_or words (i / 64) 0) (i % 64)
