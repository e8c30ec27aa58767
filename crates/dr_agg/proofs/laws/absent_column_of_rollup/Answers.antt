use Rattle.std.proofs.Common.{pos}
use Rattle.dr_agg.proofs.FoldLaws.{fold_rows-rollup, IsKept-reading, zeros}
use Rattle.dr_agg.proofs.laws.absent_column_of_rollup.Goals as goal

pub returns : goal.returns
returns c = λ combines kinds query test es.
    fold_rows-rollup query (λ r. pos 0) (λ r. test r.key) combines kinds (λ _. IsKept-reading kinds query (λ m. pos 0) test (λ xs ys. zeros query)) es
