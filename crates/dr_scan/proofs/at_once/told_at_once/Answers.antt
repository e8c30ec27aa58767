use Rattle.std.proofs.Common.{arith}
use Rattle.dr_answers.specs.Selection.{selects}
use Rattle.dr_ask.specs.Asked.{asked}
use Rattle.dr_base.specs.declared.row.Row.{Row}
use Rattle.dr_scan.proofs.AtOnce.{lot-told}
use Rattle.dr_scan.proofs.at_once.told_at_once.Goals as goal

pub loop-from-preserved : goal.loop-from-preserved
loop-from-preserved c = (
  omega (arith, c.lot_end-to.ensures.within, c.len-count.ensures),
  lot-told (λ (r : Row). selects (asked c.args.query.now) r.key) c.args.rows.now c.loop-from.from c.lot_end-to.result c.loop-from.told.items c.put_told.new.told.items (omega (arith, c.lot_end-to.ensures.more)) c.in_ok-put_told.ensures c.loop-from.invariant.1,
)
