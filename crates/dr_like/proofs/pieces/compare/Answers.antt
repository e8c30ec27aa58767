use Rattle.std.proofs.Common.{◌∙◌, sym, subst, IfSome}
use Rattle.std.specs.Str.{chars}
use Rattle.dr_like.specs.Over.{IsOver}
use Rattle.dr_like.proofs.Overs.{missed-differs}
use Rattle.dr_like.proofs.pieces.compare.Goals as goal

pub returns-then-misses : goal.returns-then-misses
returns-then-misses c =
    let o = c.in-Some.over in
    let over : IsOver (chars c.args.piece.now) (chars c.args.text.now) o.letter (chars o.ahead.now) = subst (λ m. IfSome m (λ x. IsOver (chars c.args.piece.now) (chars c.args.text.now) x.letter (chars x.ahead.now))) c.in-Some.is c.requires.missed in
    (missed-differs (chars c.args.piece.now) (chars c.args.text.now) o.letter (chars o.ahead.now) c.requires.lacks over (sym c.misses.ensures ∙ c.if-misses.true), over)
