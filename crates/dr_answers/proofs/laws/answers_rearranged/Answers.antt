use Rattle.dr_answers.proofs.AlikeRows.{answer-alike}
use Rattle.dr_answers.proofs.RearrangedRows.{Alike-IsPermutation}
use Rattle.dr_answers.proofs.laws.answers_rearranged.Goals as goal

pub returns : goal.returns
returns c = λ q a b moved. answer-alike q a b (Alike-IsPermutation q a b moved)
