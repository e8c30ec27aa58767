use Rattle.std.proofs.Common.{subst}
use Rattle.dr_cuts.specs.State.{State, AreCuts}
use Rattle.dr_timeline.specs.Order.{HaveFewRows}
use Rattle.dr_timeline.proofs.Pinning.{are-cuts}
use Rattle.dr_timeline.proofs.Ordered.{few-cuts}
use Rattle.dr_timeline.proofs.timeline.Timeline.in_order.Goals as goal

pub returns-clause-cuts : goal.returns-clause-cuts
returns-clause-cuts c =
    let i = c.self.invariant in
    let t = c.self.inside in
    subst (λ (s : State). AreCuts s.schema s.stream s.cuts) c.self.view_is (are-cuts t.spec t.stream.items t.chunks i.starts i.each)

pub returns-clause-few : goal.returns-clause-few
returns-clause-few c =
    let i = c.self.invariant in
    let t = c.self.inside in
    subst (λ (s : State). HaveFewRows s.schema s.stream s.cuts) c.self.view_is (few-cuts t.spec t.stream.items t.chunks i.each i.few)
