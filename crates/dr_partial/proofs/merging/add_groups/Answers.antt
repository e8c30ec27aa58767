use Rattle.std.proofs.Common.{◌≡◌, ◌∙◌, sym, ap, subst, true, [], ◌∷◌, length, arith}
use Rattle.std.specs.Vec.Iter.{into_iter_items}
use Rattle.dr_agg.specs.Rollup.{rollup_onto, AllFit}
use Rattle.dr_agg.proofs.Sorting.{nothing-left}
use Rattle.dr_partial.specs.Grouped.{in_order}
use Rattle.dr_partial.specs.Partial.{kinds_in}
use Rattle.dr_partial.proofs.Merged.{one-more-group, no-more-groups}
use Rattle.dr_partial.proofs.merging.add_groups.Goals as goal

pub loop-group-init : goal.loop-group-init
loop-group-init c =
    let gives = c.into_iter-group-iterator.ensures.into_iter_gives in
    let ks = kinds_in c.args.aggregations.now in
    let all : into_iter_items c.into_iter-group-iterator.result ≡ c.args.others = gives.0 ∙ c.into_rows-group-items.ensures in (
      c.requires.sound,
      subst (AllFit ks) (sym all) c.requires.fit,
      ap (rollup_onto true ks (in_order c.args.groups.now)) all,
      (let kept = ap length gives.0 in let len = gives.1 in omega (arith, kept, len)),
    )

pub loop-group-preserved : goal.loop-group-preserved
loop-group-preserved c =
    let at = c.loop-group in
    let ks = kinds_in c.args.aggregations.now in
    let steps : into_iter_items at.group-iterator ≡ c.in-Some.group ∷ into_iter_items c.next.new.self = c.in-Some.ensures.steps.0 in
    let fit = subst (AllFit ks) steps at.invariant.1 in
    let is = sym (ap (rollup_onto true ks (in_order at.groups)) steps) ∙ at.invariant.2 in (
      c.in_ok-add_group.ensures.sound,
      fit.1,
      one-more-group ks at.groups c.add_group.new.groups c.in-Some.group (into_iter_items c.next.new.self) _ c.in_ok-add_group.ensures is,
      (let was = at.invariant.3 in
          let gone = c.in-Some.ensures.steps.1 in
          let short = ap length steps in
          omega arith),
    )

pub returns : goal.returns
returns c =
    let at = c.loop-group in
    let ks = kinds_in c.args.aggregations.now in
    let none = c.in-None.ensures.steps in
    let empty : into_iter_items at.group-iterator ≡ [] = nothing-left _ (sym at.invariant.3 ∙ none.0) in
    let is = sym (ap (rollup_onto true ks (in_order at.groups)) empty) ∙ at.invariant.2 in
    record { sound = at.invariant.0; groups = no-more-groups ks (in_order at.groups) _ is }
