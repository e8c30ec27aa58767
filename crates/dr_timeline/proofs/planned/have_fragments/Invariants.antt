use Rattle.std.proofs.Common.{◌≡◌, take, map}
use Rattle.dr_timeline.proofs.planned.have_fragments.Given as goal

abbrev pub invariant-loop-i : goal.invariant-loop-i
invariant-loop-i l = map (λ r. r.fragment) (take l.i l.ranges) ≡ take l.i l.inputs
