use Rattle.std.proofs.Common.{arith}
use Rattle.dr_filter.specs.Condition.{condition_in}
use Rattle.dr_select.specs.Rows.{meets}
use Rattle.dr_select.proofs.PartLemmas.{part-told}
use Rattle.dr_select.proofs.choosing.met_by_parts.Goals as goal

pub loop-from-preserved : goal.loop-from-preserved
loop-from-preserved c =
    part-told (meets (condition_in c.args.filter.now)) c.args.rows.now c.loop-from.from c.part_end-to.result c.in_ok-part.part c.loop-from.set c.insert_part.new.set
    (omega (arith, c.part_end-to.ensures.more)) c.part_end-to.ensures.within c.in_ok-part.ensures c.insert_part.ensures c.loop-from.invariant
