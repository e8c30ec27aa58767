use Rattle.std.proofs.Common.{refl, sym, subst, length}
use Rattle.dr_rowindex.specs.Orders.{Tell}
use Rattle.dr_rowindex.proofs.TellLemmas.{tell-not}
use Rattle.dr_having.specs.declared.group_outputs.GroupOutputs.{GroupOutputs}
use Rattle.dr_having.specs.LookUps.{is_found}
use Rattle.dr_having.specs.OutputMeets.{output_meets}
use Rattle.dr_having.proofs.choosing.found.Goals as goal

pub returns-in_ok-set-in-NoText : goal.returns-in_ok-set-in-NoText
returns-in_ok-set-in-NoText c =
    let groups = c.args.lot.now.groups.now in
    subst (λ o. Tell (λ (g : GroupOutputs). output_meets g.dims g.values o) groups c.and_not.new.self) (sym c.in-NoText.is)
    (tell-not (λ (g : GroupOutputs). is_found g.dims c.in-NoText.look_up) groups c.in_ok-set-in-NoText.set c.in_ok-denied-in-NoText.denied c.and_not.new.self (length groups)
    c.in_ok-set-in-NoText.ensures refl c.in_ok-denied-in-NoText.ensures c.and_not.ensures)
