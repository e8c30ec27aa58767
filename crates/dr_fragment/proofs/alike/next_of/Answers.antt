use Rattle.std.proofs.Common.{◌∙◌, sym, arith}
use Rattle.dr_fragment.proofs.SameKeys.{taken_in, passed_by, none_left}
use Rattle.dr_fragment.proofs.alike.next_of.Goals as goal

pub returns-then-has_key_of-clause-found : goal.returns-then-has_key_of-clause-found
returns-then-has_key_of-clause-found c =
    c.loop-i.invariant ∙ taken_in c.args.row.now.key c.args.rows.now c.loop-i.i c.row-here.result c.row-here.ensures (sym c.has_key_of.ensures ∙ c.if-has_key_of.true)

pub loop-i-preserved : goal.loop-i-preserved
loop-i-preserved c =
    c.loop-i.invariant ∙ passed_by c.args.row.now.key c.args.rows.now c.loop-i.i c.row-here.result c.row-here.ensures (sym c.has_key_of.ensures ∙ c.if-has_key_of.false)

pub returns-clause-none : goal.returns-clause-none
returns-clause-none c = λ _. c.loop-i.invariant ∙ none_left c.args.row.now.key c.args.rows.now c.loop-i.i (omega arith)
