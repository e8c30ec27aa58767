use Rattle.dr_image.proofs.RowLemmas.{sealed_again}
use Rattle.dr_image.proofs.laws.columns_are_of_rows.Goals as goal

pub returns : goal.returns
returns c = λ s has. sealed_again s has
