-- What was handed to a writer through a buffer.
use Rattle.std.specs.Prelude.{◌≡◌, ℕ, List, ◌++◌, Option, Result, MatchResult}
use Rattle.std.specs.Io.KnownBytes.{Appends}

-- of these bytes the writer took the first ones, and the rest is not yet written
abbrev pub Writes : Option (List ℕ) → Option (List ℕ) → List ℕ → List ℕ → Type 0
Writes old new bytes rest = (part : List ℕ) × Appends old new part × (bytes ≡ part ++ rest)

-- of these bytes the writer took the first ones; where the call failed, the others are lost, and else the rest is kept
abbrev pub Puts : {X E : Type 0} → Option (List ℕ) → Option (List ℕ) → List ℕ → List ℕ → Result X E → Type 0
Puts old new bytes rest result = MatchResult result (λ _. Writes old new bytes rest) (λ _. (lost : List ℕ) × Writes old new bytes lost)
