-- Which of some texts a pattern fits from a place on. No public contract cites this file.
use Rattle.std.specs.Prelude.{◌≡◌, ℕ, ◌+◌, ◌<◌, ◌==◌, Bool, if◌then◌else◌, ◌&&◌, not, List, [], ◌∷◌, length, get_or, drop}
use Rattle.std.specs.List.{All, list_any, AllByRecursion}
use Rattle.std.specs.Str.{chars}
use Rattle.dr_like.specs.Like.{fits, is_empty}
use Rattle.dr_letters.specs.declared.rest.Rest.{Rest}

-- the text has no characters behind so many
abbrev pub is_short : ℕ → List ℕ → Bool
is_short places text = is_empty (drop places (chars text))

-- the text is asked for, and what is left of it from a place on fits the pattern
abbrev pub fits_from : (asked : List ℕ → Bool) (pattern : List ℕ) (place : ℕ) → List ℕ → Bool
fits_from asked pattern place text = asked text && fits pattern (drop place (chars text))

-- the text has no characters behind so many, and what is left of it from a place on fits the pattern
abbrev pub left_fits : (places : ℕ) (pattern : List ℕ) (place : ℕ) → List ℕ → Bool
left_fits places pattern place text = fits_from (is_short places) pattern place text

-- what is left of the texts from a place on, of each that has any character there
pub record AreRests (texts : List (List ℕ)) (place : ℕ) (rests : List Rest) : Type 0 where
  pub within : All (λ (x : Rest). x.row < length texts) rests
  pub own : All (λ (x : Rest). chars x.text.now ≡ drop place (chars (get_or texts x.row []))) rests
  pub each : (i : ℕ) (t : List ℕ) → i < length texts → list_any (λ (x : Rest). x.row == i) rests ≡ not (is_short place (get_or texts i t))

-- the texts that have more characters than these
pub record AreLong (texts : List (List ℕ)) (places : ℕ) (long : List ℕ) : Type 0 where
  pub within : AllByRecursion (λ r. r < length texts) long
  pub each : (i : ℕ) (t : List ℕ) → i < length texts → list_any (λ r. r == i) long ≡ not (is_short places (get_or texts i t))

-- how many letters of a pattern are one character each: all but `%`
abbrev pub letters : List ℕ → ℕ
letters [] = 0
letters (p ∷ ps) = if p == 37 then letters ps else letters ps + 1
