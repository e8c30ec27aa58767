use Rattle.std.proofs.Common.{◌≡◌, ◌∙◌, sym, ap, ◌&&◌, ◌∷◌, length, arith}
use Rattle.std.specs.Vec.Iter.{into_iter_items}
use Rattle.dr_base.specs.Told.{told}
use Rattle.dr_base.proofs.Truths.{and_regroups, and_true}
use Rattle.dr_predicate.specs.Asked.{dimensions_told, all_told}
use Rattle.dr_predicate.specs.Match.{passes, value_at}
use Rattle.dr_predicate.proofs.Dimensions.{nothing_left}
use Rattle.dr_predicate.proofs.telling.put_others.Goals as goal

pub loop-other-preserved : goal.loop-other-preserved
loop-other-preserved c =
    let at = c.loop-other in
    let t = c.in-Some.other in
    let steps : into_iter_items at.other-iterator ≡ t ∷ into_iter_items c.next.new.self = c.in-Some.ensures.steps.0 in (
      (let len = at.invariant.0 in let gone = c.in-Some.ensures.steps.1 in let short = ap length steps in omega (arith, len, gone, short)),
      λ dims. let value = value_at c.args.place dims in
          let rest = all_told (into_iter_items c.next.new.self) value in
          ap (λ b. b && rest) (c.in_ok-put.ensures dims)
          ∙ sym (and_regroups (dimensions_told dims at.tests.items) (told t.holds (passes t.test value)) rest)
          ∙ ap (λ l. dimensions_told dims at.tests.items && all_told l value) (sym steps) ∙ at.invariant.1 dims,
    )

pub returns : goal.returns
returns c = λ dims.
    let at = c.loop-other in
    let value = value_at c.args.place dims in
    let none = c.in-None.ensures.steps in
    sym (and_true (dimensions_told dims at.tests.items))
    ∙ ap (λ l. dimensions_told dims at.tests.items && all_told l value) (sym (nothing_left _ (sym at.invariant.0 ∙ none.0))) ∙ at.invariant.1 dims
