-- Where a text is searched for a piece of a pattern, which stands between two runs. No public contract cites this file.
use Rattle.std.specs.Prelude.{◌≡◌, ℕ, ◌==◌, Bool, false, List, [], ◌∷◌, ◌++◌}
use Rattle.dr_like.specs.Like.{fits, behind_some_run}

-- whatever pattern q follows: the piece p, a run and q fit what is left of the text t behind no run
abbrev pub IsNowhere : (p t : List ℕ) → Type 0
IsNowhere p t = (q : List ℕ) → behind_some_run (fits (p ++ 37 ∷ q)) t ≡ false

-- they fit what is left of t behind some run just where q fits what is left of s behind some run
abbrev pub IsBehindFirst : (p t s : List ℕ) → Type 0
IsBehindFirst p t s = (q : List ℕ) → behind_some_run (fits (p ++ 37 ∷ q)) t ≡ behind_some_run (fits q) s

-- they do just where the piece o, a run and q fit what is left of s behind some run
abbrev pub IsSameSearch : (p t o s : List ℕ) → Type 0
IsSameSearch p t o s = (q : List ℕ) → behind_some_run (fits (p ++ 37 ∷ q)) t ≡ behind_some_run (fits (o ++ 37 ∷ q)) s

-- the first letter of the piece is this one
abbrev pub is_first : ℕ → List ℕ → Bool
is_first letter [] = false
is_first letter (c ∷ cs) = c == letter
