use Rattle.std.proofs.Common.{◌≡◌, ◌-◌, map, take}
use Rattle.std.specs.List.{range_with_len}
use Rattle.dr_agg.specs.Combination.{fold_of}
use Rattle.dr_columns.specs.Read.{read_at}
use Rattle.dr_partial.proofs.whole_runs.folds_between.Given as goal

abbrev pub invariant-loop-reading : goal.invariant-loop-reading
invariant-loop-reading l = l.values.items ≡ map (λ r. fold_of r.kind (map (read_at r) (range_with_len l.from (l.to - l.from)))) (take l.reading-index l.source.readings.items)
