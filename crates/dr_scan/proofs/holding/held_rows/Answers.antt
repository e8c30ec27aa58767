use Rattle.dr_ask.specs.Asked.{asked}
use Rattle.dr_scan.proofs.AskedTogether.{held-behind}
use Rattle.dr_scan.proofs.holding.held_rows.Goals as goal

pub loop-rows-preserved : goal.loop-rows-preserved
loop-rows-preserved c =
    held-behind (asked c.args.query.now) c.args.segments.now c.loop-rows.rows-index c.rows-item.result c.loop-rows.lot.items c.put_held.new.lot.items
    c.loop-rows-test.true c.rows-item.is c.in_ok-put_held.ensures c.loop-rows.invariant
