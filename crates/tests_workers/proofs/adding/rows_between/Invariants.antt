use Rattle.std.specs.List.{AllByRecursion}
use Rattle.dr_time.specs.Instant.{IsInstant}
use Rattle.tests_workers.proofs.adding.rows_between.Given as goal

abbrev pub invariant-loop-place : goal.invariant-loop-place
invariant-loop-place l = AllByRecursion (λ r. IsInstant r.key.time) l.rows.items
