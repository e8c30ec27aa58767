use Rattle.std.proofs.Common.{◌∙◌, ap, ◌||◌, ◌∷◌, ◌++◌, []}
use Rattle.dr_patterns.specs.Fitting.{fits_some, fits_text}
use Rattle.dr_patterns.specs.Literals.{patterns_of}
use Rattle.dr_patterns.proofs.Literals.{more-others}
use Rattle.dr_patterns.proofs.gathered.Gathered.add_other.Goals as goal

pub returns : goal.returns
returns c = λ text.
    let items = c.in_ok-push.ensures.items ∙ ap (λ p. c.self.inside.others.items ++ p ∷ []) c.in_ok-copy.ensures in
    ap (λ ps. fits_some (patterns_of c.self.inside.words c.self.inside.starts.items c.self.inside.ends.items c.self.inside.parts.items ps) text) items
    ∙ more-others c.self.inside.words c.self.inside.starts.items c.self.inside.ends.items c.self.inside.parts.items c.self.inside.others.items c.args.pattern.now text
    ∙ ap (λ ps. fits_some ps text || fits_text c.args.pattern.now text) c.self.view_is
