use Rattle.std.proofs.Common.{◌≡◌, map, take, get_or}
use Rattle.dr_segment.proofs.ranking.ranks_at.Given as goal

abbrev pub invariant-loop-place : goal.invariant-loop-place
invariant-loop-place l = l.found.items ≡ map (λ n. get_or l.ranks n 0) (take l.place-index l.places)
