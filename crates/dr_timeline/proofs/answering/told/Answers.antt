use Rattle.std.proofs.Common.{subst}
use Rattle.dr_answers.specs.AnswerRefusal.{Answers}
use Rattle.dr_timeline.proofs.Asking.{given-too, failing-too}
use Rattle.dr_timeline.proofs.answering.told.Goals as goal

pub returns-in-Ok-clause-told : goal.returns-in-Ok-clause-told
returns-in-Ok-clause-told c = λ reading h. given-too reading c.in-Ok.text.items (subst (λ r. Answers (λ text. text.items) r reading) c.in-Ok.is h)

pub returns-in-Err-clause-told : goal.returns-in-Err-clause-told
returns-in-Err-clause-told c = λ reading h. failing-too reading c.in-Err.error (subst (λ r. Answers (λ text. text.items) r reading) c.in-Err.is h)
