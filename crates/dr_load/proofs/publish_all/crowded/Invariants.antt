use Rattle.std.proofs.Common.{◌≡◌, drop}
use Rattle.dr_load.specs.Policy.{crowded}
use Rattle.dr_load.proofs.publish_all.crowded.Given as goal

-- what is left to look at has what all have
abbrev pub invariant-places : goal.invariant-places
invariant-places l = crowded (drop l.place l.ranges) ≡ crowded l.ranges
