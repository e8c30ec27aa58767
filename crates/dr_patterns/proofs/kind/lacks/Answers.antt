use Rattle.dr_like.proofs.Texts.{lacks-chars}
use Rattle.dr_patterns.proofs.kind.lacks.Goals as goal

pub returns-in-None : goal.returns-in-None
returns-in-None c = λ is. lacks-chars _ _ c.utf8.text c.in-None.ensures.cases
