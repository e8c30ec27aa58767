use Rattle.std.proofs.Common.{ℕ, ◌<◌}
use Rattle.dr_timeline.specs.Kept.{StandsIn}
use Rattle.dr_timeline.proofs.planned.place_of_job.Given as goal

abbrev pub invariant-loop-place : goal.invariant-loop-place
invariant-loop-place l = (p : ℕ) → p < l.place → StandsIn l.sealed l.job p → ⊥
