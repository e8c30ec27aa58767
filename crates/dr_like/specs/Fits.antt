-- Which texts fit a pattern, form by form (Apache Druid documentation, query filters: like). Characters are Unicode scalar
-- values.
use Rattle.std.specs.Prelude.{◌≡◌, ◌≢◌, ℕ, true, List, [], ◌∷◌, ◌++◌, codes}
use Rattle.dr_like.specs.Like.{fits}

-- a character of a pattern that stands for itself: neither `%` nor `_`
abbrev pub IsItself : ℕ → Type 0
IsItself c = (c ∷ [] ≢ codes "%") × (c ∷ [] ≢ codes "_")

-- the text fits the pattern: `%` stands for some run of characters, which may be none, and `_` for one character
pub data Fits : List ℕ → List ℕ → Type 0 where
  the_end : Fits [] []
  letter : (c : ℕ) (pattern text : List ℕ) → IsItself c → Fits pattern text → Fits (c ∷ pattern) (c ∷ text)
  any_letter : (c : ℕ) (pattern text : List ℕ) → Fits pattern text → Fits (codes "_" ++ pattern) (c ∷ text)
  any_run : (run pattern text : List ℕ) → Fits pattern text → Fits (codes "%" ++ pattern) (run ++ text)

-- where there is a way that a text fits a pattern, it is found
abbrev pub FindsAllThatFit : Type 0
FindsAllThatFit = (pattern text : List ℕ) → Fits pattern text → fits pattern text ≡ true

-- where a text is found to fit a pattern, there is a way that it does
abbrev pub FindsOnlyWhatFits : Type 0
FindsOnlyWhatFits = (pattern text : List ℕ) → fits pattern text ≡ true → Fits pattern text
