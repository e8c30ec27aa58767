-- The line that tells what became of the inputs of a run.
use Rattle.std.specs.Prelude.{ℕ, List, ◌++◌, codes, decimal}

-- how many were accepted, how many were no events, and how many were not kept
abbrev pub counts_line : ℕ → ℕ → ℕ → List ℕ
counts_line processed unparseable thrown_away =
    ((codes "processed " ++ decimal processed) ++ (codes " unparseable " ++ decimal unparseable)) ++ (codes " thrownAway " ++ decimal thrown_away)
