use Rattle.std.proofs.Common.{◌∙◌, sym, ap, ◌∷◌, []}
use Rattle.std.proofs.lemmas.List.Folds.{list_all-append}
use Rattle.dr_base.proofs.Truths.{and_ends}
use Rattle.dr_patterns.specs.Each.{fits_all}
use Rattle.dr_patterns.specs.Fitting.{fits_text}
use Rattle.dr_patterns.proofs.Implied.{implied-all}
use Rattle.dr_patterns.proofs.implying.add.Goals as goal

pub returns-then-last_implies : goal.returns-then-last_implies
returns-then-last_implies c = λ text.
    let kept = c.args.kept.now.items in
    implied-all (fits_all kept text) (fits_text c.args.pattern text) (λ h.
    ap (λ p. fits_text p text) (sym c.as_str.ensures) ∙ c.last_implies.ensures c.if-last_implies.true text (ap (λ l. fits_all l text) c.as_slice.ensures.value ∙ h))

pub returns : goal.returns
returns c = λ text.
    let kept = c.args.kept.now.items in
    ap (λ l. fits_all l text) c.in_ok-push.ensures.items
    ∙ list_all-append (λ p. fits_text p text) kept (c.args.pattern ∷ [])
    ∙ and_ends (fits_all kept text) (fits_text c.args.pattern text)
