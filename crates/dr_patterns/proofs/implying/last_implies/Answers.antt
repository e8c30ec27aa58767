use Rattle.std.proofs.Common.{◌∙◌, ap, ◌-◌, length, arith}
use Rattle.dr_patterns.specs.Fitting.{fits_text}
use Rattle.dr_patterns.proofs.Implied.{fits-there}
use Rattle.dr_patterns.proofs.implying.last_implies.Goals as goal

pub returns : goal.returns
returns c = λ is text all.
    let kept = c.args.kept.now in
    let some = c.if-len-eq0.false in
    c.implies.ensures is text
    (ap (λ p. fits_text p text) (c.as_str.ensures ∙ c.index-kept-len.is) ∙ fits-there kept (length kept - 1) c.index-kept-len.result text (omega (arith, some)) all)
