use Rattle.dr_image.proofs.EncodedLemmas.{image_opens}
use Rattle.dr_image.proofs.laws.image_opens.Goals as goal

pub returns : goal.returns
returns c = λ s has bound. image_opens s has bound
