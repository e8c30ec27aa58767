use Rattle.dr_agg.proofs.RollupLaws.{list_any-rollup}
use Rattle.dr_agg.proofs.laws.keys_of_rollup.Goals as goal

pub returns : goal.returns
returns c = λ combines kinds test es. list_any-rollup combines kinds test es
