use Rattle.std.proofs.Common.{◌≡◌, true, false}
use Rattle.dr_agg.proofs.FoldLaws.{fold_rows-rollup}
use Rattle.dr_agg.proofs.laws.fold_of_rows_apart.Goals as goal

pub returns : goal.returns
returns c = λ kinds query value test es. fold_rows-rollup query value test false kinds (λ (e : false ≡ true). cc) es
