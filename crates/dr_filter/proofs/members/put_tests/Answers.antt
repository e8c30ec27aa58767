use Rattle.std.proofs.Common.{◌≡◌, ◌∙◌, sym, ap, ◌&&◌, ◌∷◌, length, arith}
use Rattle.std.specs.Vec.Iter.{into_iter_items}
use Rattle.dr_base.specs.Told.{told}
use Rattle.dr_base.proofs.Truths.{and_regroups}
use Rattle.dr_predicate.specs.Match.{holds_of}
use Rattle.dr_predicate.specs.Asked.{dimensions_told}
use Rattle.dr_filter.specs.Condition.{conditions_in, every_matches}
use Rattle.dr_filter.proofs.EveryMember.{every-one-behind}
use Rattle.dr_filter.proofs.members.put_tests.Goals as goal

pub loop-test-preserved : goal.loop-test-preserved
loop-test-preserved c =
    let at = c.loop-test in
    let t = c.in-Some.test in
    let steps : into_iter_items at.test-iterator ≡ t ∷ into_iter_items c.next.new.self = c.in-Some.ensures.steps.0 in (
      (let len = at.invariant.0 in let gone = c.in-Some.ensures.steps.1 in let short = ap length steps in omega (arith, len, gone, short)),
      λ time dims.
          let before = every_matches time dims (conditions_in at.members.items) in
          let rest = dimensions_told dims (into_iter_items c.next.new.self) in
          ap (λ b. b && rest) (every-one-behind time dims at.members.items c.push.new.self.items _ c.in_ok-push.ensures.items ∙ ap (λ b. before && b) (c.in_ok-filter_of.ensures time dims))
          ∙ sym (and_regroups before (told t.holds (holds_of t.test dims)) rest)
          ∙ ap (λ l. before && dimensions_told dims l) (sym steps) ∙ at.invariant.1 time dims,
    )
