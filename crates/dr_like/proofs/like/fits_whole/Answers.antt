use Rattle.std.proofs.Common.{◌∙◌, sym, ap, append-nil, []}
use Rattle.std.specs.Str.{chars}
use Rattle.dr_like.specs.Like.{fits}
use Rattle.dr_like.proofs.PieceParts.{walked-end, walked-false}
use Rattle.dr_like.proofs.like.fits_whole.Goals as goal

pub returns-in-Behind : goal.returns-in-Behind
returns-in-Behind c = c.is_empty.ensures ∙ sym (walked-end _ _ _ c.in-Behind.ensures)

pub returns-in-Differs : goal.returns-in-Differs
returns-in-Differs c = sym (walked-false _ _ _ c.requires c.walk.ensures c.in-Differs.is []) ∙ ap (λ p. fits p (chars c.args.text.now)) (append-nil _)
