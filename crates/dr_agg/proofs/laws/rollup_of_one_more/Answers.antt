use Rattle.dr_agg.proofs.RollupLaws.{rollup_onto_push}
use Rattle.dr_agg.proofs.laws.rollup_of_one_more.Goals as goal

pub returns : goal.returns
returns c = λ combines kinds es e. rollup_onto_push combines kinds _ es e
