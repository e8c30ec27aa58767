-- The condition that a filter stands for, and the rows that it keeps (Apache Druid documentation, query filters).
use Rattle.std.specs.Prelude.{ℕ, ℤ, Bool, true, false, not, ◌||◌, ◌&&◌, List, [], ◌∷◌, map, box_value}
use Rattle.dr_time.specs.declared.interval.Interval.{Interval}
use Rattle.dr_time.specs.Union.{union_holds}
use Rattle.dr_predicate.specs.declared.dimension_test.DimensionTest.{DimensionTest}
use Rattle.dr_filter.specs.declared.filter_tree.FilterTree.{FilterTree, fold-FilterTree}
use Rattle.dr_filter.specs.declared.filter_tree.FilterTree.TheOpen.{FilterTree-F}
use Rattle.dr_predicate.specs.Match.{holds_of}

mutual
  -- a test of a dimension, intervals of time, all or one of some conditions, the opposite of one
  pub data Condition : Type 0 where
    dimension : DimensionTest → Condition
    interval : List Interval → Condition
    every : Conditions → Condition
    some : Conditions → Condition
    opposite : Condition → Condition

  pub data Conditions : Type 0 where
    no_conditions : Conditions
    condition : Condition → Conditions → Conditions

abbrev pub conditions_of : List Condition → Conditions
conditions_of [] = no_conditions
conditions_of (c ∷ cs) = condition c (conditions_of cs)

-- whether a row of this time and these dimension values meets the condition; all of none hold, and none of none does
abbrev mutual
  pub matches : ℤ → List (List ℕ) → Condition → Bool
  matches time dims (dimension test) = holds_of test dims
  matches time dims (interval intervals) = union_holds intervals time
  matches time dims (every cs) = every_matches time dims cs
  matches time dims (some cs) = some_matches time dims cs
  matches time dims (opposite c) = not (matches time dims c)

  pub every_matches : ℤ → List (List ℕ) → Conditions → Bool
  every_matches time dims no_conditions = true
  every_matches time dims (condition c cs) = matches time dims c && every_matches time dims cs

  pub some_matches : ℤ → List (List ℕ) → Conditions → Bool
  some_matches time dims no_conditions = false
  some_matches time dims (condition c cs) = matches time dims c || some_matches time dims cs

-- one level, with the filters inside already seen as conditions
abbrev pub condition_step : FilterTree-F Condition → Condition
condition_step (FilterTree-F.Dimension test) = dimension test
condition_step (FilterTree-F.Interval union) = interval union
condition_step (FilterTree-F.And filters) = every (conditions_of filters.items)
condition_step (FilterTree-F.Or filters) = some (conditions_of filters.items)
condition_step (FilterTree-F.Not filter) = opposite (box_value filter)

-- the condition that a filter stands for
abbrev pub condition_in : FilterTree → Condition
condition_in = fold-FilterTree Condition condition_step

abbrev pub conditions_in : List FilterTree → Conditions
conditions_in filters = conditions_of (map condition_in filters)
