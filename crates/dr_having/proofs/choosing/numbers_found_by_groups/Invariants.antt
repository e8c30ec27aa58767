use Rattle.dr_rowindex.proofs.TellLemmas.{TellTo}
use Rattle.dr_having.specs.declared.group_outputs.GroupOutputs.{GroupOutputs}
use Rattle.dr_having.specs.LookUps.{is_among_at}
use Rattle.dr_having.proofs.choosing.numbers_found_by_groups.Given as goal

abbrev pub invariant-loop-i : goal.invariant-loop-i
invariant-loop-i l = TellTo l.i (λ (g : GroupOutputs). is_among_at g.values l.look_up) l.groups l.set
