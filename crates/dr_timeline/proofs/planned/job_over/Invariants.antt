use Rattle.std.proofs.Common.{◌≡◌, take, map}
use Rattle.dr_timeline.proofs.planned.job_over.Given as goal

abbrev pub invariant-loop-range : goal.invariant-loop-range
invariant-loop-range l = (l.serials ≡ map (λ r. r.serial) (take l.range-index l.ranges)) × (l.inputs ≡ map (λ r. r.fragment) (take l.range-index l.ranges))
