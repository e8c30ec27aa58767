use Rattle.std.proofs.Common.{subst}
use Rattle.dr_rowindex.specs.Orders.{Tell}
use Rattle.dr_rowindex.proofs.TellLemmas.{tell-list}
use Rattle.dr_having.specs.declared.group_outputs.GroupOutputs.{GroupOutputs}
use Rattle.dr_having.specs.Asked.{asked_meets}
use Rattle.dr_having.proofs.asked_having.AskedHaving.select.Goals as goal

pub returns : goal.returns
returns c =
    let meets = λ (g : GroupOutputs). asked_meets g.dims g.values c.args.self.now in
    tell-list meets c.args.groups.now c.in_ok-set.set (subst (λ groups. Tell meets groups c.in_ok-set.set) c.in_ok-lot.ensures c.in_ok-set.ensures)
