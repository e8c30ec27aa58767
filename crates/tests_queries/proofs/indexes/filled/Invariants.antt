use Rattle.std.proofs.Common.{◌≡◌}
use Rattle.tests_queries.proofs.indexes.filled.Given as goal

abbrev pub invariant-loop-place : goal.invariant-loop-place
invariant-loop-place l = l.index.schema ≡ l.spec
