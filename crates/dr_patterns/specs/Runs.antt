-- Patterns in which no `%` follows another one.
use Rattle.std.specs.Prelude.{ℕ, ◌==◌, Bool, true, false, ◌&&◌, not, List, [], ◌∷◌}

abbrev pub begins_with_run : (pattern : List ℕ) → Bool
begins_with_run [] = false
begins_with_run (c ∷ cs) = c == 37

-- no `%` follows another one
abbrev pub runs_are_apart : (pattern : List ℕ) → Bool
runs_are_apart [] = true
runs_are_apart (c ∷ cs) = not (c == 37 && begins_with_run cs) && runs_are_apart cs
