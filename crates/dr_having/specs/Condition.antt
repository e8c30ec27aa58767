-- The condition that a `having` stands for, and the groups that meet it (Apache Druid documentation, groupBy queries: having).
use Rattle.std.specs.Prelude.{ℕ, ℤ, Bool, true, false, not, ◌||◌, ◌&&◌, List, [], ◌∷◌, box_value}
use Rattle.dr_having.specs.declared.group_value.GroupValue.{GroupValue}
use Rattle.dr_having.specs.declared.dimension_value.DimensionValue.{DimensionValue}
use Rattle.dr_having.specs.declared.having.Having.{Having, fold-Having}
use Rattle.dr_having.specs.declared.having.Having.TheOpen.{Having-F}
use Rattle.dr_having.specs.Meeting.{meets_value, meets_dimension}

mutual
  -- of the value of an aggregation, of a dimension, all or one of some conditions, the opposite of one
  pub data Condition : Type 0 where
    aggregation : GroupValue → Condition
    dimension : DimensionValue → Condition
    every : Conditions → Condition
    some : Conditions → Condition
    opposite : Condition → Condition

  pub data Conditions : Type 0 where
    no_conditions : Conditions
    condition : Condition → Conditions → Conditions

abbrev pub conditions_of : List Condition → Conditions
conditions_of [] = no_conditions
conditions_of (c ∷ cs) = condition c (conditions_of cs)

-- whether a group of these dimension values and these values meets the condition; all of none hold, and none of none does
abbrev mutual
  pub meets : List (List ℕ) → List ℤ → Condition → Bool
  meets dims values (aggregation c) = meets_value c values
  meets dims values (dimension c) = meets_dimension c dims
  meets dims values (every cs) = meets_every dims values cs
  meets dims values (some cs) = meets_some dims values cs
  meets dims values (opposite c) = not (meets dims values c)

  pub meets_every : List (List ℕ) → List ℤ → Conditions → Bool
  meets_every dims values no_conditions = true
  meets_every dims values (condition c cs) = meets dims values c && meets_every dims values cs

  pub meets_some : List (List ℕ) → List ℤ → Conditions → Bool
  meets_some dims values no_conditions = false
  meets_some dims values (condition c cs) = meets dims values c || meets_some dims values cs

-- one level, with the conditions inside already seen
abbrev pub condition_step : Having-F Condition → Condition
condition_step (Having-F.Aggregation c) = aggregation c
condition_step (Having-F.Dimension c) = dimension c
condition_step (Having-F.And conditions) = every (conditions_of conditions.items)
condition_step (Having-F.Or conditions) = some (conditions_of conditions.items)
condition_step (Having-F.Not inner) = opposite (box_value inner)

-- the condition that a `having` stands for
abbrev pub condition_in : Having → Condition
condition_in = fold-Having Condition condition_step
