use Rattle.std.proofs.Common.{◌∙◌, sym, ap, drop}
use Rattle.std.proofs.lemmas.Str.{chars-nil}
use Rattle.dr_like.proofs.over.without_first.Goals as goal

pub returns-in-None : goal.returns-in-None
returns-in-None c = chars-nil ∙ sym (ap (drop 1) c.in-None.ensures.parts)
