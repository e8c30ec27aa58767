use Rattle.std.proofs.Common.{◌≡◌, ℕ, true, take}
use Rattle.dr_answers.specs.Groups.{grouped_values}
use Rattle.dr_columns.specs.Rows.{key_at, same_numbers}
use Rattle.dr_columns.proofs.grouping.columns.Given as goal

abbrev pub invariant-loop-dimension : goal.invariant-loop-dimension
invariant-loop-dimension l =
    (i j : ℕ) → same_numbers l.columns.items i j ≡ true
    → grouped_values (take l.dimension-index l.dimensions) (key_at l.view i).dims ≡ grouped_values (take l.dimension-index l.dimensions) (key_at l.view j).dims
