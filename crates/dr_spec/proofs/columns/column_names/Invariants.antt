use Rattle.std.proofs.Common.{◌≡◌, ◌++◌, take, map}
use Rattle.dr_spec.proofs.columns.column_names.Given as goal

abbrev pub invariant-loop-metric : goal.invariant-loop-metric
invariant-loop-metric l = l.names ≡ l.dimensions ++ map (λ m. m.name) (take l.metric-index l.metric-items)
