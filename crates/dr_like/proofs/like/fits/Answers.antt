use Rattle.std.proofs.Common.{◌∙◌, sym, ap, ◌∷◌}
use Rattle.std.specs.Str.{chars}
use Rattle.dr_like.specs.Like.{fits}
use Rattle.dr_like.proofs.PieceParts.{walked-run, walked-false}
use Rattle.dr_like.proofs.like.fits.Goals as goal

pub returns-in-Behind : goal.returns-in-Behind
returns-in-Behind c = c.fits_behind_run.ensures ∙ sym (ap (λ p. fits p (chars c.args.text.now)) c.in-Some.ensures.parts.1 ∙ walked-run _ _ _ _ c.in-Behind.ensures)

pub returns-in-Differs : goal.returns-in-Differs
returns-in-Differs c = sym (ap (λ p. fits p (chars c.args.text.now)) c.in-Some.ensures.parts.1 ∙ walked-false _ _ _ c.in-Some.ensures.parts.0 c.walk.ensures c.in-Differs.is (37 ∷ chars c.in-Some.more.now))
