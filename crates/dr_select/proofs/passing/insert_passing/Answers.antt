use Rattle.std.proofs.Common.{sym, subst}
use Rattle.dr_predicate.specs.Match.{passes}
use Rattle.dr_rowindex.specs.Orders.{Adds}
use Rattle.dr_select.proofs.passing.insert_passing.Goals as goal

pub returns-in_ok-insert_among-in-Among : goal.returns-in_ok-insert_among-in-Among
returns-in_ok-insert_among-in-Among c =
    subst (λ t. Adds (passes t) c.args.order.now c.args.set.now c.insert_among.new.set) (sym c.in-Among.is) c.in_ok-insert_among-in-Among.ensures
