use Rattle.dr_agg.proofs.RollupLaws.{same_rollup}
use Rattle.dr_agg.proofs.laws.rollup_is_unique.Goals as goal

pub returns : goal.returns
returns c = λ combines kinds es rows others a b. same_rollup combines kinds es rows others a b
