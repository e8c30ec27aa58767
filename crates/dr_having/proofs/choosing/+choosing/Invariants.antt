use Rattle.std.proofs.Common.{◌&&◌, not, map, drop}
use Rattle.std.specs.List.{list_all}
use Rattle.dr_rowindex.proofs.TellLemmas.{TellWith}
use Rattle.dr_having.specs.declared.group_outputs.GroupOutputs.{GroupOutputs}
use Rattle.dr_having.specs.Asked.{asked_meets}
use Rattle.dr_having.proofs.choosing.+choosing.Given as goal

abbrev pub invariant-met_by_none-loop-asked : goal.invariant-met_by_none-loop-asked
invariant-met_by_none-loop-asked l =
    TellWith (λ a b. a && b) (λ (g : GroupOutputs). list_all not (map (asked_meets g.dims g.values) (drop l.asked-index l.denied)))
    (λ g. list_all not (map (asked_meets g.dims g.values) l.denied)) l.lot.groups.now l.set
