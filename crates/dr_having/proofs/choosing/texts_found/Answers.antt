use Rattle.std.proofs.Common.{refl, length, bytes_eq}
use Rattle.std.specs.List.{list_any}
use Rattle.dr_outputs.specs.Numbered.{text_at}
use Rattle.dr_rowindex.proofs.TellLemmas.{tell-added}
use Rattle.dr_having.specs.declared.group_outputs.GroupOutputs.{GroupOutputs}
use Rattle.dr_having.proofs.choosing.texts_found.Goals as goal

pub returns-in_ok-insert_among-in-Some : goal.returns-in_ok-insert_among-in-Some
returns-in_ok-insert_among-in-Some c =
    let groups = c.args.lot.now.groups.now in
    let added = rw (c.in-Some.ensures) at c.in_ok-insert_among-in-Some.ensures in
    tell-added (λ (g : GroupOutputs). text_at c.args.look_up.now.place g.dims) (λ v. list_any (bytes_eq v) c.args.look_up.now.texts) groups c.in_ok-set-in-Some.set c.insert_among.new.set (length groups) c.in_ok-set-in-Some.ensures refl added
