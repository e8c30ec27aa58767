use Rattle.std.proofs.Common.{sym, subst, not, map}
use Rattle.std.specs.List.{list_all}
use Rattle.dr_rowindex.specs.Orders.{Tell}
use Rattle.dr_rowindex.proofs.TellLemmas.{tell-both, tell-same}
use Rattle.dr_having.specs.declared.asked_having.AskedHaving.{out-AskedHaving}
use Rattle.dr_having.specs.declared.group_outputs.GroupOutputs.{GroupOutputs}
use Rattle.dr_having.specs.Asked.{asked_meets}
use Rattle.dr_having.specs.OutputMeets.{outputs_meet}
use Rattle.dr_having.proofs.OutLemmas.{asked-level}
use Rattle.dr_having.proofs.choosing.+choosing.Goals as goal

pub met-returns : goal.met-returns
met-returns n c =
    let asked = c.args.asked.now in
    let groups = c.args.lot.now.groups.now in
    let outputs = (out-AskedHaving asked).outputs.items in
    let denied = (out-AskedHaving asked).denied.items in
    let held : Tell (λ (g : GroupOutputs). outputs_meet g.dims g.values outputs) groups c.in_ok-set.set =
    subst (λ l. Tell (λ (g : GroupOutputs). outputs_meet g.dims g.values l) groups c.in_ok-set.set) c.as_slice.ensures.value c.in_ok-set.ensures in
    let none : Tell (λ (g : GroupOutputs). list_all not (map (asked_meets g.dims g.values) denied)) groups c.in_ok-met_by_none.field-0 =
    subst (λ l. Tell (λ (g : GroupOutputs). list_all not (map (asked_meets g.dims g.values) l)) groups c.in_ok-met_by_none.field-0) c.as_slice-2.ensures.value c.in_ok-met_by_none.ensures in
    tell-same _ (λ (g : GroupOutputs). asked_meets g.dims g.values asked) groups c.and.new.self (λ g. sym (asked-level g.dims g.values asked))
    (tell-both (λ (g : GroupOutputs). outputs_meet g.dims g.values outputs) (λ g. list_all not (map (asked_meets g.dims g.values) denied)) groups c.in_ok-set.set c.in_ok-met_by_none.field-0 c.and.new.self held none c.and.ensures)
