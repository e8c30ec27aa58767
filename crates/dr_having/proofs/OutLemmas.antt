-- One level of what is asked.
use Rattle.std.proofs.Common.{◌≡◌, ◌∙◌, sym, ap, not, ◌&&◌, map, ℕ, ℤ, Bool, List}
use Rattle.std.specs.List.{list_all}
use Rattle.dr_having.specs.declared.asked_having.AskedHaving.{AskedHaving, out-AskedHaving}
use Rattle.dr_having.specs.declared.asked_having.AskedHaving.TheFolds.{fold-roll-AskedHaving}
use Rattle.dr_having.specs.declared.asked_having.AskedHaving.TheViews.{roll-out-AskedHaving}
use Rattle.dr_having.specs.Asked.{asked_meets, asked_step}
use Rattle.dr_having.specs.OutputMeets.{outputs_meet}

pub asked-level : (dims : List (List ℕ)) (values : List ℤ) (a : AskedHaving)
    → asked_meets dims values a ≡ (outputs_meet dims values (out-AskedHaving a).outputs.items && list_all not (map (asked_meets dims values) (out-AskedHaving a).denied.items))
asked-level dims values a = ap (asked_meets dims values) (sym (roll-out-AskedHaving a)) ∙ fold-roll-AskedHaving Bool (asked_step dims values) (out-AskedHaving a)
