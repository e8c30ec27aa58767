use Rattle.dr_agg.proofs.Rearranged.{fold_rows-IsPermutation}
use Rattle.dr_agg.proofs.laws.fold_of_rearranged.Goals as goal

pub returns : goal.returns
returns c = λ query value test es others moved. fold_rows-IsPermutation query value test es others moved
