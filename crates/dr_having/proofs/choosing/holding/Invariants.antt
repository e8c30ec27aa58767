use Rattle.std.proofs.Common.{◌&&◌, drop}
use Rattle.dr_rowindex.proofs.TellLemmas.{TellWith}
use Rattle.dr_having.specs.declared.group_outputs.GroupOutputs.{GroupOutputs}
use Rattle.dr_having.specs.OutputMeets.{outputs_meet}
use Rattle.dr_having.proofs.choosing.holding.Given as goal

abbrev pub invariant-loop-output : goal.invariant-loop-output
invariant-loop-output l =
    TellWith (λ a b. a && b) (λ (g : GroupOutputs). outputs_meet g.dims g.values (drop l.output-index l.outputs)) (λ g. outputs_meet g.dims g.values l.outputs) l.lot.groups.now l.set
