use Rattle.std.proofs.Common.{◌≡◌, ◌∙◌, sym, ap, ◌&&◌, ◌∷◌, length, arith}
use Rattle.std.specs.List.{list_all}
use Rattle.std.specs.Vec.Iter.{into_iter_items}
use Rattle.dr_base.proofs.Truths.{and_regroups, and_true}
use Rattle.dr_predicate.specs.Asked.{dimensions_told, asked_at}
use Rattle.dr_predicate.proofs.Dimensions.{nothing_left}
use Rattle.dr_predicate.proofs.telling.told_of.Goals as goal

pub loop-one-preserved : goal.loop-one-preserved
loop-one-preserved c =
    let at = c.loop-one in
    let one = c.in-Some.one in
    let steps : into_iter_items at.one-iterator ≡ one ∷ into_iter_items c.next.new.self = c.in-Some.ensures.steps.0 in (
      (let len = at.invariant.0 in let gone = c.in-Some.ensures.steps.1 in let short = ap length steps in omega (arith, len, gone, short)),
      λ dims. let rest = list_all (asked_at dims) (into_iter_items c.next.new.self) in
          ap (λ b. b && rest) (c.in_ok-put_asked.ensures dims)
          ∙ sym (and_regroups (dimensions_told dims at.tests.items) (asked_at dims one) rest)
          ∙ ap (λ l. dimensions_told dims at.tests.items && list_all (asked_at dims) l) (sym steps) ∙ at.invariant.1 dims,
    )

pub returns : goal.returns
returns c = λ dims.
    let at = c.loop-one in
    let none = c.in-None.ensures.steps in
    sym (and_true (dimensions_told dims at.tests.items))
    ∙ ap (λ l. dimensions_told dims at.tests.items && list_all (asked_at dims) l) (sym (nothing_left _ (sym at.invariant.0 ∙ none.0))) ∙ at.invariant.1 dims
