use Rattle.std.proofs.Common.{◌≡◌, drop}
use Rattle.dr_spec.specs.Columns.{distinct_after, distinct_names}
use Rattle.dr_spec.proofs.columns.distinct_names.Given as goal

abbrev pub invariant-loop-name : goal.invariant-loop-name
invariant-loop-name l = distinct_after l.before (drop l.name-index l.texts) ≡ distinct_names l.names
