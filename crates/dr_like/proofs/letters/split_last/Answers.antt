use Rattle.std.proofs.lemmas.Str.{chars-nil}
use Rattle.dr_like.proofs.NoBytes.{no_bytes}
use Rattle.dr_like.proofs.Texts.{chars-push}
use Rattle.dr_like.proofs.letters.split_last.Goals as goal

pub returns-in-Some-clause-parts : goal.returns-in-Some-clause-parts
returns-in-Some-clause-parts c = chars-push _ _ _ c.utf8.text c.as_str.utf8 (rw (← c.chars-letters.ensures.rest, c.as_str.ensures) c.in-Some.ensures.steps)

pub returns-in-None-clause-parts : goal.returns-in-None-clause-parts
returns-in-None-clause-parts c = rw (no_bytes c.args.text.now (rw (← c.chars-letters.ensures.rest) c.in-None.ensures.steps.0)) chars-nil
