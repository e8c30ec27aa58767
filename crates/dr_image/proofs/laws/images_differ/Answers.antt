use Rattle.dr_image.proofs.LawLemmas.{images_differ}
use Rattle.dr_image.proofs.laws.images_differ.Goals as goal

pub returns : goal.returns
returns c = λ s r has_s has_r bound same. images_differ s r has_s has_r bound same
