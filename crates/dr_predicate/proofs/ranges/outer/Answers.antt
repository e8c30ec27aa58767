use Rattle.std.proofs.Common.{◌≡◌, ◌∙◌, sym, ap, subst, take, ◌∷◌, [], ◌+◌, length, append_assoc, append-nil, arith}
use Rattle.std.specs.Vec.Iter.{into_iter_items}
use Rattle.std.proofs.Math.Seq.{take-length}
use Rattle.dr_predicate.specs.Within.{some_within}
use Rattle.dr_predicate.proofs.Dimensions.{nothing_left}
use Rattle.dr_predicate.proofs.Reaching.{AreOuter, none_outer, one_more, is_next, one_longer}
use Rattle.dr_predicate.proofs.ranges.outer.Goals as goal

pub loop-bounds-init : goal.loop-bounds-init
loop-bounds-init c =
    let gives = c.into_iter-bounds-iterator.ensures.into_iter_gives in
    (gives.0, (let kept = ap length gives.0 in let len = gives.1 in omega (arith, kept, len)), subst (λ l. AreOuter c.args.sorted.items l 0) (sym c.new-outer.ensures.items) (none_outer c.args.sorted.items))

pub loop-bounds-preserved : goal.loop-bounds-preserved
loop-bounds-preserved c =
    let at = c.loop-bounds in
    let b = c.in-Some.bounds in
    let sorted = c.args.sorted.items in
    let steps : into_iter_items at.bounds-iterator ≡ b ∷ into_iter_items c.next.new.self = c.in-Some.ensures.steps.0 in
    let all = rw steps at at.invariant.0 in
    let next = is_next at.yielded (into_iter_items c.next.new.self) sorted b all in (
      append_assoc at.yielded (b ∷ []) _ ∙ all,
      (let len = at.invariant.1 in let gone = c.in-Some.ensures.steps.1 in let short = ap length steps in omega (arith, len, gone, short)),
      subst (AreOuter sorted c.add_outer.new.outer.items) (sym (one_longer at.yielded b))
          (subst (λ l. AreOuter sorted l (length at.yielded + 1)) (sym c.in_ok-add_outer.ensures) (one_more sorted at.outer.items (length at.yielded) b c.requires next.0 next.1 at.invariant.2)),
    )

pub returns-clause-rise : goal.returns-clause-rise
returns-clause-rise c = c.loop-bounds.invariant.2.rise

pub returns-clause-reach : goal.returns-clause-reach
returns-clause-reach c = c.loop-bounds.invariant.2.reach

pub returns-clause-same : goal.returns-clause-same
returns-clause-same c = λ text.
    let at = c.loop-bounds in
    let sorted = c.args.sorted.items in
    let none = c.in-None.ensures.steps in
    let empty = nothing_left _ (sym at.invariant.1 ∙ none.0) in
    let yielded : at.yielded ≡ sorted = sym (append-nil at.yielded) ∙ rw empty at at.invariant.0 in
    let whole : take (length at.yielded) sorted ≡ sorted = ap (λ l. take (length l) sorted) yielded ∙ take-length sorted in
    at.invariant.2.same text ∙ ap (λ l. some_within l text) whole
