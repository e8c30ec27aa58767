use Rattle.dr_cuts.proofs.Matching.{answer-cut_rows}
use Rattle.dr_cuts.proofs.laws.answers_over_cuts.Goals as goal

pub returns : goal.returns
returns c = λ schema q es cuts made matches are. answer-cut_rows schema q es cuts are made matches
