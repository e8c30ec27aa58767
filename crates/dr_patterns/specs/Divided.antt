-- Which texts fit one of some patterns that stand in two lists (Apache Druid documentation, query filters: like, or).
use Rattle.std.specs.Prelude.{ℕ, Bool, ◌||◌, List}
use Rattle.dr_patterns.specs.Fitting.{fits_some}
use Rattle.dr_patterns.specs.declared.divided.DividedPatterns.{DividedPatterns}

abbrev pub fits_divided : DividedPatterns → List ℕ → Bool
fits_divided d text = fits_some d.together.items text || fits_some d.tried.items text
