use Rattle.std.proofs.Common.{◌≡◌, ◌++◌, drop}
use Rattle.dr_answers.specs.Groups.{grouped_values}
use Rattle.dr_partial.proofs.selecting.read_group.Given as goal

-- what was written, and the values of the dimensions that are left
abbrev pub invariant-loop-dimension : goal.invariant-loop-dimension
invariant-loop-dimension l = l.group.items ++ grouped_values (drop l.dimension-index l.dimensions) l.dims ≡ grouped_values l.dimensions l.dims
