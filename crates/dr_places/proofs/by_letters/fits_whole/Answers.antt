use Rattle.std.proofs.Common.{◌∙◌, arith}
use Rattle.dr_places.proofs.BeginLemmas.{whole-stands, whole-misses}
use Rattle.dr_places.proofs.by_letters.fits_whole.Goals as goal

pub returns-then-pattern-text : goal.returns-then-pattern-text
returns-then-pattern-text c = whole-misses c.args.pattern.now c.args.text.now c.requires (λ same. omega (arith, same, c.if-pattern-text.true))

pub returns : goal.returns
returns c = c.stands_at.ensures ∙ whole-stands c.args.pattern.now c.args.text.now c.requires (omega (arith, c.if-pattern-text.false))
