-- Sets of numbers that are joined by their steps. No public contract cites this file.
use Rattle.std.specs.Prelude.{ℤ, Bool, true, false, List, []}
use Rattle.std.specs.List.{list_all}
use Rattle.dr_having.specs.Steps.{Steps, is_among}

-- a number is in all of some sets
abbrev pub are_among : List Steps → ℤ → Bool
are_among sets value = list_all (λ s. is_among s value) sets

-- cuts where they are wanted, and else none
abbrev pub where_wanted : Bool → List ℤ → List ℤ
where_wanted true cs = cs
where_wanted false cs = []
