-- Words without a bit. No public contract cites this file.
use Rattle.std.specs.Prelude.{◌≡◌, ℕ, List, get_or}

-- each word is 0
abbrev pub AreZero : List ℕ → Type 0
AreZero words = (k : ℕ) → get_or words k 0 ≡ 0
