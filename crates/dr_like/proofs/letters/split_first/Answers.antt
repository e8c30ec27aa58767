use Rattle.std.proofs.lemmas.Str.{chars_past_char, chars-nil}
use Rattle.dr_like.proofs.NoBytes.{no_bytes}
use Rattle.dr_like.proofs.letters.split_first.Goals as goal

pub returns-in-Some-clause-parts : goal.returns-in-Some-clause-parts
returns-in-Some-clause-parts c = rw c.as_str.ensures (chars_past_char _ _ _ c.utf8.text (rw (← c.chars-letters.ensures.rest) c.in-Some.ensures.steps.0))

pub returns-in-None-clause-parts : goal.returns-in-None-clause-parts
returns-in-None-clause-parts c = rw (no_bytes c.args.text.now (rw (← c.chars-letters.ensures.rest) c.in-None.ensures.steps.0.0)) chars-nil
