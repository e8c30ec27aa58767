-- Texts as they are read from one side, number by number: which begins with which, and which comes before which. No public contract
-- cites this file.
use Rattle.std.specs.Prelude.{◌≡◌, ℕ, ◌==◌, Bool, true, false, ◌||◌, ◌&&◌, if◌then◌else◌, nat_lt, List, [], ◌∷◌}
use Rattle.std.specs.List.{list_any, AllByRecursion}

-- the text begins with the start
abbrev pub begins : (start text : List ℕ) → Bool
begins [] text = true
begins (s ∷ ss) [] = false
begins (s ∷ ss) (c ∷ cs) = (s == c) && begins ss cs

-- at the first place where they differ stands less in the first one
abbrev pub is_below : (text other : List ℕ) → Bool
is_below [] other = false
is_below (s ∷ ss) [] = false
is_below (s ∷ ss) (c ∷ cs) = nat_lt s c || (s == c) && is_below ss cs

-- the text begins with the start, or comes behind it
abbrev pub is_at_most : (start text : List ℕ) → Bool
is_at_most start text = begins start text || is_below start text

-- how texts are read
module _ (read : List ℕ → List ℕ) where
  -- the text, which was read, begins with one of the edges
  abbrev pub begins_some : (edges : List (List ℕ)) (text : List ℕ) → Bool
  begins_some edges text = list_any (λ e. begins (read e) text) edges

  -- each comes before those behind it, and none of these begins with it
  abbrev pub Rise : List (List ℕ) → Type 0
  Rise [] = Unit {0}
  Rise (e ∷ es) = AllByRecursion (λ t. is_below (read e) (read t) ≡ true) es × Rise es

  -- each comes before those behind it, or these begin with it
  abbrev pub InOrder : List (List ℕ) → Type 0
  InOrder [] = Unit {0}
  InOrder (e ∷ es) = AllByRecursion (λ t. is_at_most (read e) (read t) ≡ true) es × InOrder es

  -- without those that begin with the one that is kept before them
  abbrev pub outer_behind : List ℕ → List (List ℕ) → List (List ℕ)
  outer_behind last [] = []
  outer_behind last (e ∷ es) = if begins (read last) (read e) then outer_behind last es else e ∷ outer_behind e es
