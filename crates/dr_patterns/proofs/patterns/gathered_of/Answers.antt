use Rattle.std.proofs.Common.{◌∙◌, sym, ap, ◌||◌, drop, ◌+◌, ◌∷◌}
use Rattle.std.proofs.lemmas.List.{drop_more}
use Rattle.dr_base.proofs.Truths.{or_regroups}
use Rattle.dr_patterns.specs.Fitting.{fits_some, fits_text}
use Rattle.dr_patterns.proofs.patterns.gathered_of.Goals as goal

pub loop-pattern-preserved : goal.loop-pattern-preserved
loop-pattern-preserved c = λ text.
    let more = drop (c.loop-pattern.pattern-index + 1) c.args.patterns.now in
    let next = drop_more c.args.patterns.now c.loop-pattern.pattern-index c.pattern-item.result c.loop-pattern-test.true ∙ ap (λ p. p ∷ more) (sym c.pattern-item.is) in
    ap (λ b. b || fits_some more text) (c.in_ok-add.ensures text)
    ∙ sym (or_regroups (fits_some c.loop-pattern.gathered text) (fits_text c.pattern-item.result text) (fits_some more text))
    ∙ ap (λ ps. fits_some c.loop-pattern.gathered text || fits_some ps text) (sym next)
    ∙ c.loop-pattern.invariant text
