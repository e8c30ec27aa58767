use Rattle.std.proofs.Common.{◌≡◌, take, map}
use Rattle.dr_merge.proofs.inputs.ordered_inputs.Given as goal

abbrev pub invariant-loop-input : goal.invariant-loop-input
invariant-loop-input l = l.ordered.items ≡ map (λ f. f.rows) (take l.input-index l.inputs)
