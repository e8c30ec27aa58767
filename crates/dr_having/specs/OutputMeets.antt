-- What is asked of one output of a group, and when it is so.
use Rattle.std.specs.Prelude.{ℕ, ℤ, Bool, not, List}
use Rattle.std.specs.List.{list_all}
use Rattle.dr_having.specs.declared.asked_output.AskedOutput.{AskedOutput}
use Rattle.dr_having.specs.declared.asked_output.AskedOutput.TheVariants.{Number, Text, NoText}
use Rattle.dr_having.specs.LookUps.{is_among_at, is_found}

abbrev pub output_meets : List (List ℕ) → List ℤ → AskedOutput → Bool
output_meets dims values (Number l) = is_among_at values l
output_meets dims values (Text l) = is_found dims l
output_meets dims values (NoText l) = not (is_found dims l)

abbrev pub outputs_meet : List (List ℕ) → List ℤ → List AskedOutput → Bool
outputs_meet dims values outputs = list_all (output_meets dims values) outputs
