use Rattle.std.proofs.Common.{◌∙◌, ap, ◌||◌, ◌∷◌, []}
use Rattle.std.proofs.lemmas.List.Folds.{list_any-append}
use Rattle.dr_base.proofs.Truths.{or_ends, or_swaps}
use Rattle.dr_patterns.specs.Fitting.{fits_some, fits_text}
use Rattle.dr_patterns.proofs.divided.DividedPatterns.add_together.Goals as goal

pub returns : goal.returns
returns c = λ text.
    let d = c.args.self.now in
    let tried = fits_some d.tried.items text in
    let pattern = c.args.pattern in
    ap (λ l. fits_some l text || tried) c.in_ok-push.ensures.items
    ∙ ap (λ b. b || tried) (list_any-append (λ p. fits_text p text) d.together.items (pattern ∷ []) ∙ or_ends (fits_some d.together.items text) (fits_text pattern text))
    ∙ or_swaps (fits_some d.together.items text) (fits_text pattern text) tried
