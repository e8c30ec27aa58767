use Rattle.dr_agg.proofs.RollupLaws.{IsRollup-rollup}
use Rattle.dr_agg.proofs.laws.rollup_is_rollup.Goals as goal

pub returns : goal.returns
returns c = λ combines kinds es. IsRollup-rollup combines kinds es
