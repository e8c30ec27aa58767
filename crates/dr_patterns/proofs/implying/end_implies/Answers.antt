use Rattle.std.proofs.Common.{◌∙◌, sym, ap, subst}
use Rattle.dr_patterns.specs.Fitting.{fits_text}
use Rattle.dr_patterns.specs.Literals.{IsOfKind}
use Rattle.dr_patterns.proofs.Implied.{end-implied}
use Rattle.dr_patterns.proofs.implying.end_implies.Goals as goal

pub returns-in-End : goal.returns-in-End
returns-in-End c = λ is text fit.
    let kind = subst (IsOfKind c.args.other.now) c.in-End.is c.kind_of.ensures in
    ap (λ p. fits_text p text) kind.1 ∙ end-implied c.in-End.shorter.now c.args.end.now text kind.0 c.requires (sym c.has.ensures ∙ is) fit
