use Rattle.std.proofs.Common.{◌∙◌, sym, ap}
use Rattle.dr_agg.specs.Rollup.{rollup}
use Rattle.dr_merge.proofs.Adding.{apart_in_order}
use Rattle.dr_merge.proofs.combining.rolled_up.Goals as goal

pub returns : goal.returns
returns c = c.in_ok-apart.ensures ∙ apart_in_order c.args.kinds.now c.args.rows.now c.requires ∙ ap (λ b. rollup b c.args.kinds.now c.args.rows.now) (sym c.if-combines.false)
