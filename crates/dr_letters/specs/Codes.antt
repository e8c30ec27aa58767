-- The characters of texts by their places. No public contract cites this file.
use Rattle.std.specs.Prelude.{◌≡◌, ◌≢◌, ℕ, ◌+◌, ◌<◌, ◌==◌, Bool, false, ◌&&◌, not, List, [], ◌∷◌, length, get_or, drop}
use Rattle.std.specs.List.{All, list_any}
use Rattle.dr_rowindex.specs.Orders.{Tell}
use Rattle.dr_letters.specs.declared.common_code.CommonCode.{CommonCode}
use Rattle.dr_letters.specs.declared.text_letter.TextLetter.{TextLetter}

-- the number of the first character, counted from 1, and 0 of no characters
abbrev pub first_code : List ℕ → ℕ
first_code [] = 0
first_code (c ∷ cs) = c + 1

-- the number of the character at a place of a text
abbrev pub code_at : ℕ → List ℕ → ℕ
code_at place letters = first_code (drop place letters)

-- of the texts that were told of those are left whose value passes a test
pub record Keeps {V : Type 0} (test : V → Bool) (values : List V) (before after : List Bool) : Type 0 where
  pub count : length after ≡ length before
  pub each : (i : ℕ) (v : V) → i < length values → get_or after i false ≡ (get_or before i false && test (get_or values i v))

-- a code is one of those that many have
abbrev pub is_common : List CommonCode → ℕ → Bool
is_common common n = list_any (λ (c : CommonCode). c.code == n) common

-- a character has another
abbrev pub is_rare : List CommonCode → TextLetter → Bool
is_rare common l = not (is_common common l.code)

-- of each of some codes that is that of a character it is told which of the numbers are it
abbrev pub AreCommon : List ℕ → List CommonCode → Type 0
AreCommon numbers common = All (λ (c : CommonCode). c.code ≢ 0 → Tell (λ n. n == c.code) numbers c.texts) common

-- the characters that have these codes were read, each with its row; where there is none, the code is 0
pub record AreRead (letters : List TextLetter) (codes : List ℕ) : Type 0 where
  pub own : All (λ (l : TextLetter). get_or codes l.row 0 ≡ l.code) letters
  pub each : (i : ℕ) → i < length codes → list_any (λ (l : TextLetter). l.row == i) letters ≡ not (get_or codes i 0 == 0)
