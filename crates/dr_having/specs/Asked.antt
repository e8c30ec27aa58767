-- What is asked of each group in the place of a `having`, and the groups that meet it.
use Rattle.std.specs.Prelude.{ℕ, ℤ, Bool, not, ◌&&◌, List}
use Rattle.std.specs.List.{list_all}
use Rattle.dr_having.specs.declared.asked_having.AskedHaving.{AskedHaving, fold-AskedHaving}
use Rattle.dr_having.specs.declared.asked_having.AskedHaving.TheOpen.{AskedHaving-F}
use Rattle.dr_having.specs.OutputMeets.{outputs_meet}

-- one level, with what is denied already seen: all that is asked of outputs is so, and nothing that is denied
abbrev pub asked_step : List (List ℕ) → List ℤ → AskedHaving-F Bool → Bool
asked_step dims values a = outputs_meet dims values a.outputs.items && list_all not a.denied.items

abbrev pub asked_meets : List (List ℕ) → List ℤ → AskedHaving → Bool
asked_meets dims values = fold-AskedHaving Bool (asked_step dims values)
