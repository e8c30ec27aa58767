use Rattle.std.proofs.Common.{◌≡◌, ◌++◌, ◌<◌, drop, map, None}
use Rattle.std.specs.Prelude.{IfSome}
use Rattle.dr_timeline.specs.Numbered.{numbered}
use Rattle.dr_timeline.proofs.scanning.segments.Given as goal

-- with the ranges that are left
abbrev pub invariant-loop-i : goal.invariant-loop-i
invariant-loop-i l = record {
  segments : l.segments.items ++ numbered l.schema l.last (drop l.i l.ranges) (drop l.i (map (λ f. f.rows) l.fragments)) ≡ numbered l.schema None l.ranges (map (λ f. f.rows) l.fragments);
  place : IfSome l.last (λ p. p.1 < l.i);
}
