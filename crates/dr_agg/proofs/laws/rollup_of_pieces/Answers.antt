use Rattle.dr_agg.proofs.RollupLaws.{rollup-all_rows}
use Rattle.dr_agg.proofs.laws.rollup_of_pieces.Goals as goal

pub returns : goal.returns
returns c = λ combines kinds pieces. rollup-all_rows combines kinds pieces
