use Rattle.std.proofs.Common.{◌≡◌, ◌++◌, take, get_or, pos}
use Rattle.std.specs.List.{flat_map}
use Rattle.dr_dump.specs.Dump.{whole_number}
use Rattle.dr_dump.specs.Written.{data_tokens}
use Rattle.dr_dump.proofs.row_writing.write_metrics.Given as goal

abbrev pub invariant-loop-m : goal.invariant-loop-m
invariant-loop-m l = (l.out.before ≡ l.fn.out.before) × (l.out.tokens ≡ l.fn.out.tokens ++ flat_map (λ m. data_tokens (whole_number (get_or m l.i (pos 0)))) (take l.m l.view.metrics))
