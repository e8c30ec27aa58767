use Rattle.std.proofs.Common.{subst}
use Rattle.std.specs.List.{AllByRecursion}
use Rattle.dr_cuts.specs.State.{State}
use Rattle.dr_timeline.specs.Steps.{HasVersions}
use Rattle.dr_timeline.proofs.Numbering.{numbered-shown}
use Rattle.dr_timeline.proofs.timeline.Timeline.versions_are_publications.Goals as goal

pub returns : goal.returns
returns c = subst (λ (s : State). AllByRecursion HasVersions s.cuts) c.self.view_is (numbered-shown c.self.inside.commits c.self.inside.chunks c.self.invariant.numbered)
