use Rattle.dr_image.proofs.OpenedLemmas.{bytes_by, opened_is_image}
use Rattle.dr_image.proofs.laws.opened_is_image.Goals as goal

pub returns : goal.returns
returns c = λ bytes t fits e. opened_is_image bytes t (bytes_by bytes fits) e
