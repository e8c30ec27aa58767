use Rattle.std.proofs.Common.{◌∙◌, sym, ap, subst}
use Rattle.dr_patterns.specs.Fitting.{fits_text}
use Rattle.dr_patterns.specs.Literals.{IsOfKind}
use Rattle.dr_patterns.proofs.Implied.{start-implied}
use Rattle.dr_patterns.proofs.implying.start_implies.Goals as goal

pub returns-in-Start : goal.returns-in-Start
returns-in-Start c = λ is text fit.
    let kind = subst (IsOfKind c.args.other.now) c.in-Start.is c.kind_of.ensures in
    ap (λ p. fits_text p text) kind.1 ∙ start-implied c.in-Start.shorter.now c.args.start.now text kind.0 c.requires (sym c.has.ensures ∙ is) fit
