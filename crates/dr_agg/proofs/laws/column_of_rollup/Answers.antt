use Rattle.dr_agg.specs.Combination.{column}
use Rattle.dr_agg.proofs.FoldLaws.{fold_rows-rollup, IsKept-reading, column-matched}
use Rattle.dr_agg.proofs.laws.column_of_rollup.Goals as goal

pub returns : goal.returns
returns c = λ combines kinds query kind place test at matching es.
    fold_rows-rollup query (λ r. column place r.metrics) (λ r. test r.key) combines kinds (λ _. IsKept-reading kinds query (column place) test (column-matched kinds query kind place at matching)) es
