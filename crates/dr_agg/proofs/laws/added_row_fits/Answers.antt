use Rattle.dr_agg.proofs.RollupLaws.{AllFit-add_row}
use Rattle.dr_agg.proofs.laws.added_row_fits.Goals as goal

pub returns : goal.returns
returns c = λ combines kinds rows r all one. AllFit-add_row combines kinds rows r all one
