use Rattle.std.proofs.Common.{◌∙◌, sym, ap, subst}
use Rattle.dr_patterns.specs.Fitting.{fits_text}
use Rattle.dr_patterns.specs.Literals.{IsOfKind}
use Rattle.dr_patterns.proofs.Implied.{part-implied}
use Rattle.dr_patterns.proofs.implying.part_implies.Goals as goal

pub returns-in-Part : goal.returns-in-Part
returns-in-Part c = λ is text fit.
    let kind = subst (IsOfKind c.args.other.now) c.in-Part.is c.kind_of.ensures in
    ap (λ p. fits_text p text) kind.1 ∙ part-implied c.in-Part.shorter.now c.args.part.now text kind.0 c.requires (sym c.has.ensures ∙ is) fit
