use Rattle.std.proofs.Common.{◌≡◌, ◌∙◌, sym, ap, ◌&&◌, ◌∷◌, length, arith}
use Rattle.std.specs.Vec.Iter.{into_iter_items}
use Rattle.dr_base.proofs.Truths.{and_regroups, and_true}
use Rattle.dr_patterns.specs.Each.{fits_all}
use Rattle.dr_patterns.specs.Fitting.{fits_text}
use Rattle.dr_predicate.specs.Asked.{dimensions_told}
use Rattle.dr_predicate.specs.Match.{value_at}
use Rattle.dr_predicate.proofs.Dimensions.{nothing_left}
use Rattle.dr_predicate.proofs.telling.put_each.Goals as goal

pub loop-pattern-preserved : goal.loop-pattern-preserved
loop-pattern-preserved c =
    let at = c.loop-pattern in
    let p = c.in-Some.pattern in
    let steps : into_iter_items at.pattern-iterator ≡ p ∷ into_iter_items c.next.new.self = c.in-Some.ensures.steps.0 in (
      (let len = at.invariant.0 in let gone = c.in-Some.ensures.steps.1 in let short = ap length steps in omega (arith, len, gone, short)),
      λ dims. let value = value_at c.args.place dims in
          let rest = fits_all (into_iter_items c.next.new.self) value in
          ap (λ b. b && rest) (c.in_ok-put.ensures dims)
          ∙ sym (and_regroups (dimensions_told dims at.tests.items) (fits_text p value) rest)
          ∙ ap (λ l. dimensions_told dims at.tests.items && fits_all l value) (sym steps) ∙ at.invariant.1 dims,
    )

pub returns : goal.returns
returns c = λ dims.
    let at = c.loop-pattern in
    let value = value_at c.args.place dims in
    let none = c.in-None.ensures.steps in
    sym (and_true (dimensions_told dims at.tests.items))
    ∙ ap (λ l. dimensions_told dims at.tests.items && fits_all l value) (sym (nothing_left _ (sym at.invariant.0 ∙ none.0))) ∙ at.invariant.1 dims
