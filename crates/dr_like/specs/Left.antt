-- What is left of a pattern and a text behind a piece of the pattern. No public contract cites this file.
use Rattle.std.specs.Prelude.{◌≡◌, ℕ, ◌<◌, true, false, List, ◌++◌, length}
use Rattle.std.specs.Str.{chars}
use Rattle.dr_like.specs.declared.walked.Walked.{Walked}
use Rattle.dr_like.specs.declared.walked.Walked.TheVariants.{Behind, Differs, TextEnds}
use Rattle.dr_like.specs.Like.{fits, behind_some_run}
use Rattle.dr_like.specs.Over.{IsOver}

-- p and t are left of a pattern and a text: the whole fits where these do, and if the pattern fits the text behind some
-- run, then so do they
pub record IsBehind (pattern text p t : List ℕ) : Type 0 where
  pub same : fits pattern text ≡ fits p t
  pub later : behind_some_run (fits pattern) text ≡ true → behind_some_run (fits p) t ≡ true

-- what came of comparing a piece with the start of a text, whatever follows the piece in its pattern
abbrev pub IsWalked : (piece text : List ℕ) → Walked → Type 0
IsWalked piece text (Behind s) = (more : List ℕ) → IsBehind (piece ++ more) text more (chars s.now)
IsWalked piece text (Differs over) = ((more : List ℕ) → fits (piece ++ more) text ≡ false) × IsOver piece text over.letter (chars over.ahead.now)
IsWalked piece text TextEnds = length text < length piece
