use Rattle.std.proofs.Common.{◌≡◌, ◌∙◌, sym, ap, ◌&&◌, not, ◌∷◌, length, arith}
use Rattle.std.specs.Vec.Iter.{into_iter_items}
use Rattle.dr_base.proofs.Truths.{and_true}
use Rattle.dr_patterns.specs.Fitting.{fits_some, fits_text}
use Rattle.dr_predicate.specs.Asked.{dimensions_told}
use Rattle.dr_predicate.specs.Match.{value_at}
use Rattle.dr_predicate.proofs.Dimensions.{denied_with, nothing_left}
use Rattle.dr_predicate.proofs.telling.put_tried.Goals as goal

pub loop-pattern-preserved : goal.loop-pattern-preserved
loop-pattern-preserved c =
    let at = c.loop-pattern in
    let p = c.in-Some.pattern in
    let steps : into_iter_items at.pattern-iterator ≡ p ∷ into_iter_items c.next.new.self = c.in-Some.ensures.steps.0 in (
      (let len = at.invariant.0 in let gone = c.in-Some.ensures.steps.1 in let short = ap length steps in omega (arith, len, gone, short)),
      λ dims. let value = value_at c.args.place dims in
          let rest = fits_some (into_iter_items c.next.new.self) value in
          ap (λ b. b && not rest) (c.in_ok-put.ensures dims)
          ∙ denied_with (dimensions_told dims at.tests.items) (fits_text p value) rest
          ∙ ap (λ l. dimensions_told dims at.tests.items && not (fits_some l value)) (sym steps) ∙ at.invariant.1 dims,
    )

pub returns : goal.returns
returns c = λ dims.
    let at = c.loop-pattern in
    let value = value_at c.args.place dims in
    let none = c.in-None.ensures.steps in
    sym (and_true (dimensions_told dims at.tests.items))
    ∙ ap (λ l. dimensions_told dims at.tests.items && not (fits_some l value)) (sym (nothing_left _ (sym at.invariant.0 ∙ none.0))) ∙ at.invariant.1 dims
