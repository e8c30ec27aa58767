use Rattle.dr_image.specs.Table.{row_at}
use Rattle.dr_columns.proofs.AtOnce.{ranged-more}
use Rattle.dr_columns.proofs.at_once.rows_between.Goals as goal

pub loop-i-preserved : goal.loop-i-preserved
loop-i-preserved c = ranged-more (row_at c.args.view.now) c.args.from c.loop-i.i c.loop-i.rows.items c.push.new.self.items _ c.loop-i.auto.i c.in_ok-push.ensures.items c.loop-i.invariant c.in_ok-row.ensures
