-- Which texts fit one of some patterns (Apache Druid documentation, query filters: like, or).
use Rattle.std.specs.Prelude.{◌≡◌, ℕ, Bool, List}
use Rattle.std.specs.List.{list_any}
use Rattle.std.specs.Str.{chars}
use Rattle.dr_like.specs.Like.{fits}

-- the text fits the pattern
abbrev pub fits_text : (pattern text : List ℕ) → Bool
fits_text pattern text = fits (chars pattern) (chars text)

-- the text fits one of the patterns
abbrev pub fits_some : (patterns : List (List ℕ)) (text : List ℕ) → Bool
fits_some patterns text = list_any (λ p. fits (chars p) (chars text)) patterns

-- each text fits one of the patterns just where it fits one of the others
abbrev pub FitSame : (patterns others : List (List ℕ)) → Type 0
FitSame patterns others = (text : List ℕ) → fits_some patterns text ≡ fits_some others text
