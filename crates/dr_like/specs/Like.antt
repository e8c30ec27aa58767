-- Which texts fit a pattern (Apache Druid documentation, query filters: like): `%` is any run of characters, `_` is one
-- character, every other is itself. Characters are Unicode scalar values. These definitions calculate; which texts fit is said
-- form by form by the relation `Fits`, and the laws `what_fits_is_found` and `what_is_found_fits` say that the two are the same.
use Rattle.std.specs.Prelude.{ℕ, ◌==◌, Bool, true, false, ◌||◌, ◌&&◌, if◌then◌else◌, List, [], ◌∷◌}

-- `_` is every character, another one itself alone
abbrev pub letter_fits : ℕ → ℕ → Bool
letter_fits p c = p == 95 || p == c

-- a character that passes, and behind it a rest that passes
abbrev pub first_and_rest : (ℕ → Bool) → (List ℕ → Bool) → List ℕ → Bool
first_and_rest first rest [] = false
first_and_rest first rest (c ∷ cs) = first c && rest cs

-- what is left behind some run of characters, which may be none or all of them
abbrev pub behind_some_run : (List ℕ → Bool) → List ℕ → Bool
behind_some_run rest [] = rest []
behind_some_run rest (c ∷ cs) = rest (c ∷ cs) || behind_some_run rest cs

abbrev pub is_empty : List ℕ → Bool
is_empty [] = true
is_empty (c ∷ cs) = false

-- whether the whole text fits the pattern, calculated from its first character on
unfoldable pub fits : (pattern text : List ℕ) → Bool
fits [] text = is_empty text
fits (p ∷ ps) text = if p == 37 then behind_some_run (fits ps) text else first_and_rest (letter_fits p) (fits ps) text
