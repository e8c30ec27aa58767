use Rattle.std.proofs.Common.{◌<◌, subst}
use Rattle.dr_workers.proofs.Selected.{put-next}
use Rattle.dr_workers.proofs.waiting.put_each.Goals as goal

pub loop-i-preserved : goal.loop-i-preserved
loop-i-preserved c =
    put-next c.args.query.now c.args.waiting.now.items c.loop-i.waiting.items c.put_row.new.waiting.items c.args.rows.now c.loop-i.i c.row.result
    (subst (λ n. c.loop-i.i < n) c.len-i-end.ensures c.loop-i-test.true) c.row.ensures c.loop-i.invariant c.in_ok-put_row.ensures
