use Rattle.std.proofs.Common.{◌<◌, subst}
use Rattle.dr_ask.specs.Asked.{asked}
use Rattle.dr_scan.proofs.AskedTogether.{held-next}
use Rattle.dr_scan.proofs.holding.put_each.Goals as goal

pub loop-i-preserved : goal.loop-i-preserved
loop-i-preserved c =
    held-next (asked c.args.query.now) c.args.rows.now c.loop-i.i c.row.result c.args.lot.now.items c.loop-i.lot.items c.put_if_held.new.lot.items
    (subst (λ n. c.loop-i.i < n) c.len-i-end.ensures c.loop-i-test.true) c.row.ensures c.in_ok-put_if_held.ensures c.loop-i.invariant
