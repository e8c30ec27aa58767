-- Which texts fit each of some patterns (Apache Druid documentation, query filters: like, and).
use Rattle.std.specs.Prelude.{ℕ, Bool, List}
use Rattle.std.specs.List.{list_all}
use Rattle.dr_patterns.specs.Fitting.{fits_text}

abbrev pub fits_all : (patterns : List (List ℕ)) (text : List ℕ) → Bool
fits_all patterns text = list_all (λ p. fits_text p text) patterns
