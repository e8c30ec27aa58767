use Rattle.std.proofs.Common.{◌∙◌, ap, ◌||◌, ◌∷◌, []}
use Rattle.std.proofs.lemmas.List.Folds.{list_any-append}
use Rattle.dr_base.proofs.Truths.{or_ends, or_regroups}
use Rattle.dr_patterns.specs.Fitting.{fits_some, fits_text}
use Rattle.dr_patterns.proofs.divided.DividedPatterns.add_tried.Goals as goal

pub returns : goal.returns
returns c = λ text.
    let d = c.args.self.now in
    let together = fits_some d.together.items text in
    let pattern = c.args.pattern in
    ap (λ l. together || fits_some l text) c.in_ok-push.ensures.items
    ∙ ap (λ b. together || b) (list_any-append (λ p. fits_text p text) d.tried.items (pattern ∷ []) ∙ or_ends (fits_some d.tried.items text) (fits_text pattern text))
    ∙ or_regroups together (fits_some d.tried.items text) (fits_text pattern text)
