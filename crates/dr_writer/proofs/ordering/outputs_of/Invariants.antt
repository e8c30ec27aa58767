use Rattle.std.proofs.Common.{◌≡◌, ◌++◌, map}
use Rattle.dr_writer.specs.Outputs.{output_of}
use Rattle.dr_writer.proofs.ordering.outputs_of.Given as goal

-- with the entries that are left
abbrev pub invariant-loop-name : goal.invariant-loop-name
invariant-loop-name l = l.outputs.items ++ map output_of l.name-iterator ≡ map output_of l.fn.places.entries
