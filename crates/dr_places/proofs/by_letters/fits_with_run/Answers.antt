use Rattle.std.proofs.Common.{◌∙◌, sym, ◌∷◌, arith}
use Rattle.dr_places.proofs.BeginLemmas.{begins-short, not-begun, start-fits}
use Rattle.dr_places.proofs.by_letters.fits_with_run.Goals as goal

pub returns-then-start-text : goal.returns-then-start-text
returns-then-start-text c =
    let p = c.args.start.now in
    let text = c.args.text.now in
    sym (not-begun p (37 ∷ c.args.more.now) text c.requires (begins-short p text (omega (arith, c.if-start-text.true))))

pub returns-then-not-stands_at : goal.returns-then-not-stands_at
returns-then-not-stands_at c = sym (not-begun c.args.start.now (37 ∷ c.args.more.now) c.args.text.now c.requires (sym c.stands_at.ensures ∙ c.if-not-stands_at.true))

pub returns : goal.returns
returns c = c.fits_behind_run.ensures ∙ sym (start-fits c.args.start.now c.args.more.now c.args.text.now c.requires (sym c.stands_at.ensures ∙ c.if-not-stands_at.false))
