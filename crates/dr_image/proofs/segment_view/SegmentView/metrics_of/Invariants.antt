use Rattle.std.proofs.Common.{◌≡◌, map, take, get_or, pos}
use Rattle.dr_image.proofs.segment_view.SegmentView.metrics_of.Given as goal

abbrev pub invariant-loop-m : goal.invariant-loop-m
invariant-loop-m l = l.metrics ≡ map (λ m. get_or m l.i (pos 0)) (take l.m l.self.metrics)
