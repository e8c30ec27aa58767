use Rattle.std.proofs.Common.{◌∙◌, arith}
use Rattle.dr_places.proofs.BeginLemmas.{end-stands, end-short}
use Rattle.dr_places.proofs.by_letters.fits_end.Goals as goal

pub returns-then-pattern-text : goal.returns-then-pattern-text
returns-then-pattern-text c = end-short c.args.pattern.now c.args.text.now c.args.from c.requires.lacks (omega (arith, c.if-pattern-text.true))

pub returns : goal.returns
returns c = c.stands_at.ensures ∙ end-stands c.args.pattern.now c.args.text.now c.args.from c.requires.lacks (omega (arith, c.if-pattern-text.false, c.requires.from))
