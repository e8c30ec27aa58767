use Rattle.dr_gran.proofs.NestingLemmas.{truncation-nested}
use Rattle.dr_gran.proofs.laws.truncation_passes_through_what_nests.Goals as goal

pub returns : goal.returns
returns c = λ g h t e from. truncation-nested g h e t from
