use Rattle.std.proofs.Common.{refl, length}
use Rattle.dr_outputs.specs.Numbered.{number_at}
use Rattle.dr_rowindex.proofs.TellLemmas.{tell-added}
use Rattle.dr_having.specs.Steps.{is_among}
use Rattle.dr_having.specs.declared.group_outputs.GroupOutputs.{GroupOutputs}
use Rattle.dr_having.proofs.choosing.numbers_found.Goals as goal

pub returns-in_ok-set-in-Some : goal.returns-in_ok-set-in-Some
returns-in_ok-set-in-Some c =
    let groups = c.args.lot.now.groups.now in
    let added = rw (c.in-Some.ensures) at c.insert_among.ensures in
    tell-added (λ (g : GroupOutputs). number_at c.args.look_up.now.place g.values) (is_among c.args.look_up.now.steps) groups c.in_ok-set-in-Some.set c.insert_among.new.set (length groups) c.in_ok-set-in-Some.ensures refl added
