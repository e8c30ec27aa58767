use Rattle.dr_agg.proofs.FoldLaws.{fold_rows-rollup, IsKept-reading}
use Rattle.dr_agg.proofs.laws.fold_of_rollup.Goals as goal

pub returns : goal.returns
returns c = λ combines kinds query reading test h es. fold_rows-rollup query (λ r. reading r.metrics) (λ r. test r.key) combines kinds (λ _. IsKept-reading kinds query reading test h) es
