-- Characters that a text lacks.
use Rattle.std.specs.Prelude.{ℕ, ◌==◌, List}
use Rattle.std.specs.Str.{NonePass}

-- none of the characters is this one
abbrev pub Lacks : ℕ → List ℕ → Type 0
Lacks letter cs = NonePass (λ c. c == letter) cs
