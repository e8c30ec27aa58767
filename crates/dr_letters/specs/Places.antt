-- The characters of texts at their first places. No public contract cites this file.
use Rattle.std.specs.Prelude.{◌≡◌, ℕ, ◌<◌, ◌%◌, ◌==◌, ◌&&◌, not, true, false, List, length, get_or, map}
use Rattle.std.specs.Str.{chars}
use Rattle.dr_rowindex.specs.Orders.{Tell}
use Rattle.dr_letters.specs.declared.place_letters.PlaceLetters.{PlaceLetters}
use Rattle.dr_letters.specs.Codes.{AreCommon, code_at, is_common}
use Rattle.dr_letters.specs.Rare.{AreRare}

-- the characters at a place have these codes
pub record IsPlace (codes : List ℕ) (p : PlaceLetters) : Type 0 where
  pub ended : Tell (λ n. n == 0) codes p.ended
  pub common : AreCommon codes p.common.items
  pub rare : AreRare (λ n. not (is_common p.common.items n) && not (n == 0)) codes p.rare
  pub seen : (i : ℕ) → i < length codes → (get_or codes i 0 == 0) ≡ false → get_or p.seen (get_or codes i 0 % 128) false ≡ true

-- the characters of the texts are known at so many places
abbrev pub ArePlaces : List (List ℕ) → List PlaceLetters → Type 0
ArePlaces texts places = (k : ℕ) (other : PlaceLetters) → k < length places → IsPlace (map (λ t. code_at k (chars t)) texts) (get_or places k other)
