use Rattle.std.proofs.Common.{◌∙◌, ap, ◌||◌, ◌∷◌, ◌++◌, []}
use Rattle.dr_patterns.specs.Fitting.{fits_some, fits_text}
use Rattle.dr_patterns.specs.Literals.{holding, patterns_of}
use Rattle.dr_patterns.proofs.Literals.{more-parts}
use Rattle.dr_patterns.proofs.gathered.Gathered.add_part.Goals as goal

pub returns : goal.returns
returns c = λ text.
    let items = c.in_ok-push.ensures.items ∙ ap (λ p. c.self.inside.parts.items ++ p ∷ []) c.in_ok-from_str.ensures in
    ap (λ ps. fits_some (patterns_of c.self.inside.words c.self.inside.starts.items c.self.inside.ends.items ps c.self.inside.others.items) text) items
    ∙ more-parts c.self.inside.words c.self.inside.starts.items c.self.inside.ends.items c.self.inside.parts.items c.self.inside.others.items c.args.part.now text
    ∙ ap (λ ps. fits_some ps text || fits_text (holding c.args.part.now) text) c.self.view_is
