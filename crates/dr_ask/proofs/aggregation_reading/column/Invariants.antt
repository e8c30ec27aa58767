use Rattle.std.proofs.Common.{◌≡◌, drop, bytes_eq}
use Rattle.std.specs.List.{find, enumerate_from}
use Rattle.dr_ask.proofs.aggregation_reading.column.Given as goal

abbrev pub invariant-loop-place : goal.invariant-loop-place
invariant-loop-place l =
    find (λ m. bytes_eq m.1.name l.name) (enumerate_from l.place (drop l.place l.metrics)) ≡ find (λ m. bytes_eq m.1.name l.name) (enumerate_from 0 l.metrics)
