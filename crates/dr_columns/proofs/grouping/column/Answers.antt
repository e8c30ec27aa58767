use Rattle.std.proofs.Common.{◌∙◌, sym}
use Rattle.dr_columns.proofs.ValueLemmas.{same-values, unknown}
use Rattle.dr_columns.proofs.grouping.column.Goals as goal

pub returns-in-Some : goal.returns-in-Some
returns-in-Some c = λ i j same. same-values c.args.view.now c.args.place c.in-Some.d i j _ c.in-Some.ensures c.numbers.ensures same

pub returns-in-None : goal.returns-in-None
returns-in-None c = λ i j same. unknown c.args.view.now c.args.place i c.in-None.ensures ∙ sym (unknown c.args.view.now c.args.place j c.in-None.ensures)
