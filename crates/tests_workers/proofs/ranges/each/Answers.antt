use Rattle.dr_base.specs.declared.row.Row.{Row}
use Rattle.dr_time.specs.Instant.{IsInstant}
use Rattle.dr_workers.proofs.Rows.{in-range}
use Rattle.tests_workers.proofs.ranges.each.Goals as goal

pub of_fragment-requires : goal.of_fragment-requires
of_fragment-requires c = in-range (λ (r : Row). IsInstant r.key.time) c.args.ranges.now c.loop-i.i c.index-ranges-i.result c.loop-i-test.true c.index-ranges-i.is c.requires
