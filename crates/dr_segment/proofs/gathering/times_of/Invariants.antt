use Rattle.std.proofs.Common.{◌≡◌, map, take}
use Rattle.dr_segment.proofs.gathering.times_of.Given as goal

abbrev pub invariant-loop-row : goal.invariant-loop-row
invariant-loop-row l = l.times.items ≡ map (λ r. r.key.time) (take l.row-index l.rows)
