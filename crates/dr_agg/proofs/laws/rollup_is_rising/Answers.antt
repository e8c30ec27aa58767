use Rattle.dr_agg.proofs.RollupLaws.{IsRising-rollup}
use Rattle.dr_agg.proofs.laws.rollup_is_rising.Goals as goal

pub returns : goal.returns
returns c = λ kinds es. IsRising-rollup kinds es
