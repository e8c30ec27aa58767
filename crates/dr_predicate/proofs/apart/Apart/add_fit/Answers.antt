use Rattle.std.proofs.Common.{◌∙◌, ap, ◌&&◌, not, ◌∷◌, []}
use Rattle.std.proofs.lemmas.List.Folds.{list_all-append}
use Rattle.dr_base.proofs.Truths.{and_ends}
use Rattle.dr_patterns.specs.Each.{fits_all}
use Rattle.dr_patterns.specs.Fitting.{fits_some, fits_text}
use Rattle.dr_predicate.specs.Asked.{all_told}
use Rattle.dr_predicate.proofs.Dimensions.{one_more_fit}
use Rattle.dr_predicate.proofs.apart.Apart.add_fit.Goals as goal

pub returns : goal.returns
returns c = λ value.
    let a = c.args.self.now in
    let none = not (fits_some a.no_patterns.items value) in
    let others = all_told a.others.items value in
    let pattern = c.args.pattern in
    ap (λ l. (fits_all l value && none) && others) c.in_ok-push.ensures.items
    ∙ ap (λ b. (b && none) && others) (list_all-append (λ p. fits_text p value) a.patterns.items (pattern ∷ []) ∙ and_ends (fits_all a.patterns.items value) (fits_text pattern value))
    ∙ one_more_fit (fits_all a.patterns.items value) (fits_text pattern value) none others
