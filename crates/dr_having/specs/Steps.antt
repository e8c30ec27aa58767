-- A set of numbers by its steps: each comparison with a number is one, and so is whatever `and`, `or` and `not` make of some.
use Rattle.std.specs.Prelude.{ℤ, Bool, not, List, [], ◌∷◌, if◌then◌else◌, ◌≤ℤ◌, int_le}
use Rattle.std.specs.List.{AllByRecursion}

-- whether the least numbers are in the set, and the cuts at each of which this is turned round
pub record Steps : Type 0 where
  pub within : Bool
  pub cuts : List ℤ

-- each cut that isn't above the number turns it round
abbrev pub turned_by : Bool → List ℤ → ℤ → Bool
turned_by within [] value = within
turned_by within (c ∷ cs) value = turned_by (if int_le c value then not within else within) cs value

abbrev pub is_among : Steps → ℤ → Bool
is_among s value = turned_by s.within s.cuts value

-- none is below one that stands before it
abbrev pub Rise : List ℤ → Type 0
Rise [] = Unit {0}
Rise (c ∷ cs) = AllByRecursion (λ d. c ≤ℤ d) cs × Rise cs
