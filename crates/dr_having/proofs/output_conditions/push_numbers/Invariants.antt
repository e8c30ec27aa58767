use Rattle.std.proofs.Common.{◌≡◌, ◌&&◌, ℕ, ℤ, List, drop}
use Rattle.dr_having.specs.Collected.{all_numbers}
use Rattle.dr_having.specs.OutputMeets.{outputs_meet}
use Rattle.dr_having.proofs.output_conditions.push_numbers.Given as goal

abbrev pub invariant-loop-conditions : goal.invariant-loop-conditions
invariant-loop-conditions l = (dims : List (List ℕ)) (values : List ℤ)
    → (outputs_meet dims values l.asked.items && all_numbers values (drop l.conditions-index l.numbers)) ≡ (outputs_meet dims values l.initial.asked.items && all_numbers values l.numbers)
