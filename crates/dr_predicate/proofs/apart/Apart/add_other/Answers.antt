use Rattle.std.proofs.Common.{◌∙◌, ap, ◌&&◌, not, ◌∷◌, []}
use Rattle.std.proofs.lemmas.List.Folds.{list_all-append}
use Rattle.dr_base.specs.Told.{told}
use Rattle.dr_base.proofs.Truths.{and_ends, and_regroups}
use Rattle.dr_patterns.specs.Each.{fits_all}
use Rattle.dr_patterns.specs.Fitting.{fits_some}
use Rattle.dr_predicate.specs.declared.told_test.ToldTest.{ToldTest}
use Rattle.dr_predicate.specs.Asked.{all_told}
use Rattle.dr_predicate.specs.Match.{passes}
use Rattle.dr_predicate.proofs.apart.Apart.add_other.Goals as goal

pub returns : goal.returns
returns c = λ value.
    let a = c.args.self.now in
    let none = fits_all a.patterns.items value && not (fits_some a.no_patterns.items value) in
    let more = told c.args.holds (passes c.args.test value) in
    ap (λ l. none && all_told l value) c.in_ok-push.ensures.items
    ∙ ap (λ b. none && b) (list_all-append (λ (t : ToldTest). told t.holds (passes t.test value)) a.others.items (record { test = c.args.test; holds = c.args.holds } ∷ []) ∙ and_ends (all_told a.others.items value) more)
    ∙ and_regroups none (all_told a.others.items value) more
