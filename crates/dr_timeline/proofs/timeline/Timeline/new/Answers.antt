use Rattle.std.proofs.Common.{refl, arith}
use Rattle.dr_cuts.specs.Chunks.{values_onto}
use Rattle.dr_timeline.proofs.timeline.Timeline.new.Goals as goal

pub invariant_of-result : goal.invariant_of-result
unfolding values_onto
invariant_of-result c = rw (c.new.ensures, c.new-2.ensures)
    (record { formed = c.schema.ensures.well_formed; fit = tt; texts = tt; starts = refl; each = tt; few = tt; numbered = tt; retained = omega arith; seals = omega arith; commits = omega arith })
