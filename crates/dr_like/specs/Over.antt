-- A letter of a piece of a pattern over a character of a text. No public contract cites this file.
use Rattle.std.specs.Prelude.{◌≡◌, ℕ, Bool, true, not, List, [], ◌∷◌, ◌++◌, length, drop}
use Rattle.dr_like.specs.Like.{letter_fits}

-- the letter doesn't fit the first character, or there is none
abbrev pub is_missed : ℕ → List ℕ → Bool
is_missed letter [] = true
is_missed letter (c ∷ cs) = not (letter_fits letter c)

-- a letter of the piece, and the text from the character on that it stands over where the piece stands at the start of the text
pub record IsOver (piece text : List ℕ) (letter : ℕ) (ahead : List ℕ) : Type 0 where
  pub before : List ℕ
  pub behind : List ℕ
  pub parts : piece ≡ before ++ letter ∷ behind
  pub there : ahead ≡ drop (length before) text
