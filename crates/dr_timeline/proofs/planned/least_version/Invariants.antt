use Rattle.std.proofs.Common.{◌≡◌, ◌+◌, drop, map, min}
use Rattle.std.specs.List.{fold}
use Rattle.dr_chunks.specs.Held.{range_of}
use Rattle.dr_timeline.specs.Steps.{least_version}
use Rattle.dr_timeline.proofs.planned.least_version.Given as goal

abbrev pub invariant-loop-range : goal.invariant-loop-range
invariant-loop-range l = fold (λ least range. min least range.version) l.least (map range_of (drop (l.range-index + 1) l.ranges)) ≡ least_version (map range_of l.ranges)
