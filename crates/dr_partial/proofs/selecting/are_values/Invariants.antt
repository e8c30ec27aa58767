use Rattle.std.proofs.Common.{◌≡◌, take}
use Rattle.dr_answers.specs.Groups.{grouped_values}
use Rattle.dr_partial.proofs.selecting.are_values.Given as goal

abbrev pub invariant-loop-i : goal.invariant-loop-i
invariant-loop-i l = take l.i l.values ≡ grouped_values (take l.i l.dimensions) l.dims
