use Rattle.std.proofs.Common.{arith}
use Rattle.dr_finish.specs.Meeting.{row_meets}
use Rattle.dr_finish.proofs.AtOnce.{lot-told}
use Rattle.dr_finish.proofs.meeting.met_at_once.Goals as goal

pub loop-from-preserved : goal.loop-from-preserved
loop-from-preserved c = (
  c.lot_end-to.ensures.within,
  lot-told (row_meets c.args.asked.now c.args.by.now.dimensions c.args.aggregations.now) c.args.groups.now c.loop-from.from c.lot_end-to.result c.loop-from.met.items c.put_met.new.met.items
      (omega (arith, c.lot_end-to.ensures.more)) c.in_ok-put_met.ensures c.loop-from.invariant.1,
)
