use Rattle.dr_agg.proofs.RollupLaws.{AllFit-rollup_onto}
use Rattle.dr_agg.proofs.laws.rollup_fits.Goals as goal

pub returns : goal.returns
returns c = λ combines kinds es each. AllFit-rollup_onto combines kinds _ es tt each
