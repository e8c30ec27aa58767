use Rattle.std.proofs.Common.{subst}
use Rattle.dr_cuts.specs.Segments.{Pinned}
use Rattle.dr_timeline.specs.Order.{AreRangesOf}
use Rattle.dr_timeline.proofs.snapshot.Snapshot.in_order.Goals as goal

pub returns : goal.returns
returns c =
    let i = c.self.invariant in
    subst (λ (p : Pinned). AreRangesOf p.schema p.stream p.ranges) c.self.view_is (i.cuts, i.are_cuts, i.ranges_are)
