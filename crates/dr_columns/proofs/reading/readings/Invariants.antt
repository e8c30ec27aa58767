use Rattle.std.proofs.Common.{◌≡◌, ℕ, map, take}
use Rattle.dr_answers.specs.Fold.{reading_in}
use Rattle.dr_image.specs.Table.{row_at}
use Rattle.dr_columns.specs.Read.{read_at}
use Rattle.dr_columns.proofs.reading.readings.Given as goal

abbrev pub invariant-loop-aggregation : goal.invariant-loop-aggregation
invariant-loop-aggregation l =
    (map (λ r. r.kind) l.readings.items ≡ map (λ a. a.kind) (take l.aggregation-index l.aggregations))
    × ((i : ℕ) → map (λ r. read_at r i) l.readings.items ≡ map (λ a. reading_in a.kind a.column (row_at l.view i)) (take l.aggregation-index l.aggregations))
