use Rattle.std.proofs.Common.{◌∙◌, ap, ◌&&◌, not, ◌∷◌, []}
use Rattle.std.proofs.lemmas.List.Folds.{list_any-append}
use Rattle.dr_base.proofs.Truths.{or_ends}
use Rattle.dr_patterns.specs.Each.{fits_all}
use Rattle.dr_patterns.specs.Fitting.{fits_some, fits_text}
use Rattle.dr_predicate.specs.Asked.{all_told}
use Rattle.dr_predicate.proofs.Dimensions.{one_more_none}
use Rattle.dr_predicate.proofs.apart.Apart.add_no_pattern.Goals as goal

pub returns : goal.returns
returns c = λ value.
    let a = c.args.self.now in
    let each = fits_all a.patterns.items value in
    let others = all_told a.others.items value in
    let pattern = c.args.pattern in
    ap (λ l. (each && not (fits_some l value)) && others) c.in_ok-push.ensures.items
    ∙ ap (λ b. (each && not b) && others) (list_any-append (λ p. fits_text p value) a.no_patterns.items (pattern ∷ []) ∙ or_ends (fits_some a.no_patterns.items value) (fits_text pattern value))
    ∙ one_more_none each (fits_some a.no_patterns.items value) (fits_text pattern value) others
