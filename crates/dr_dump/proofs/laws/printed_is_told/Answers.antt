use Rattle.dr_dump.proofs.SpellingLemmas.{printed_told}
use Rattle.dr_dump.proofs.laws.printed_is_told.Goals as goal

pub returns : goal.returns
returns c = λ bytes t fit opens. printed_told bytes t fit opens
