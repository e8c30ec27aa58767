use Rattle.dr_agg.proofs.Rearranged.{rollup-IsPermutation}
use Rattle.dr_agg.proofs.laws.rollup_of_rearranged.Goals as goal

pub returns : goal.returns
returns c = λ kinds es others moved. rollup-IsPermutation kinds es others moved
