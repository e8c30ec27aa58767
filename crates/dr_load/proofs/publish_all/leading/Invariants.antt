use Rattle.std.proofs.Common.{◌≡◌, ◌+◌, ◌-◌, ◌≤◌, drop, length}
use Rattle.dr_load.specs.Policy.{leading}
use Rattle.dr_load.proofs.publish_all.leading.Given as goal

abbrev pub invariant-counted : goal.invariant-counted
invariant-counted l = (l.count ≤ length l.ranges) × (l.count + leading l.chunk (drop l.count l.ranges) ≡ leading l.chunk l.ranges)

abbrev pub decreases-counted : goal.decreases-counted
decreases-counted l = length l.ranges - l.count
