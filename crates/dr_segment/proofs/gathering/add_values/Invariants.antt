use Rattle.std.proofs.Common.{map}
use Rattle.dr_segment.specs.Columns.{AddsRow}
use Rattle.dr_segment.proofs.gathering.add_values.Given as goal

abbrev pub invariant-loop-m : goal.invariant-loop-m
invariant-loop-m l = AddsRow (map (λ v. v.items) l.fn.metrics.items) (map (λ v. v.items) l.metrics.items) l.row.metrics l.m
