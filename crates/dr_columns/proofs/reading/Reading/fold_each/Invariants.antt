use Rattle.std.proofs.Common.{◌≡◌, ◌-◌, map}
use Rattle.std.specs.List.{range_with_len, fold}
use Rattle.dr_agg.specs.Combination.{combine_of, fold_of}
use Rattle.dr_columns.specs.Read.{read_at}
use Rattle.dr_columns.proofs.reading.Reading.fold_each.Given as goal

abbrev pub invariant-loop-i : goal.invariant-loop-i
invariant-loop-i l = fold (combine_of l.self.kind) l.folded (map (read_at l.self) (range_with_len l.i (l.to - l.i))) ≡ fold_of l.self.kind (map (read_at l.self) (range_with_len l.from (l.to - l.from)))
