use Rattle.std.proofs.Common.{ℕ, Bool, not, arith}
use Rattle.dr_filter.specs.Condition.{condition_in}
use Rattle.dr_columns.specs.Rows.{meets}
use Rattle.dr_columns.proofs.AtOnce.{ranged-joined}
use Rattle.dr_columns.proofs.at_once.failures.Goals as goal

pub loop-from-preserved : goal.loop-from-preserved
loop-from-preserved c =
    let failed : ℕ → Bool = λ i. not (meets c.args.view.now (condition_in c.args.filter.now) i) in (
      omega (arith, c.lot_end-to.ensures.within, c.row_count-count.ensures.value),
      ranged-joined failed c.loop-from.from c.lot_end-to.result c.loop-from.failed.items c.put_failures.new.failed.items (omega (arith, c.lot_end-to.ensures.more)) c.in_ok-put_failures.ensures c.loop-from.invariant.1,
    )
