use Rattle.dr_answers.proofs.AlikeRows.{answer-alike}
use Rattle.dr_answers.proofs.laws.answers_of_alike_rows.Goals as goal

pub returns : goal.returns
returns c = λ q a b alike. answer-alike q a b alike
