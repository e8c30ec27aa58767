use Rattle.std.proofs.Common.{◌≡◌, ◌∙◌, sym, ap, subst, not, take, ◌∷◌, [], length, append_assoc, append-nil, arith}
use Rattle.std.specs.Vec.Iter.{into_iter_items}
use Rattle.std.proofs.Math.Seq.{take-length}
use Rattle.dr_predicate.specs.Match.{some_within}
use Rattle.dr_predicate.proofs.Dimensions.{nothing_left}
use Rattle.dr_predicate.proofs.Gaps.{AreGaps, no_gaps, one_gap}
use Rattle.dr_predicate.proofs.Reaching.{is_next, one_longer}
use Rattle.dr_predicate.proofs.ranges.gaps_of.Goals as goal

pub loop-bounds-init : goal.loop-bounds-init
loop-bounds-init c =
    let gives = c.into_iter-bounds-iterator.ensures.into_iter_gives in
    (gives.0, (let kept = ap length gives.0 in let len = gives.1 in omega (arith, kept, len)), no_gaps c.args.ranges.items c.new-gaps.result.items c.every_text.result c.new-gaps.ensures.items c.every_text.ensures)

pub loop-bounds-preserved : goal.loop-bounds-preserved
loop-bounds-preserved c =
    let at = c.loop-bounds in
    let b = c.in-Some.bounds in
    let ranges = c.args.ranges.items in
    let steps : into_iter_items at.bounds-iterator ≡ b ∷ into_iter_items c.next.new.self = c.in-Some.ensures.steps.0 in
    let all = rw steps at at.invariant.0 in
    let next = is_next at.yielded (into_iter_items c.next.new.self) ranges b all in (
      append_assoc at.yielded (b ∷ []) _ ∙ all,
      (let len = at.invariant.1 in let gone = c.in-Some.ensures.steps.1 in let short = ap length steps in omega (arith, len, gone, short)),
      subst (AreGaps ranges c.put_gap.new.gaps.items c.in_ok-left.left) (sym (one_longer at.yielded b))
          (one_gap ranges at.gaps.items c.put_gap.new.gaps.items at.left c.in_ok-left.left (length at.yielded) b c.requires.rise c.requires.reach next.0 next.1 at.invariant.2 c.in_ok-left.ensures.gaps c.in_ok-left.ensures.left),
    )

pub returns : goal.returns
returns c = λ text.
    let at = c.loop-bounds in
    let ranges = c.args.ranges.items in
    let none = c.in-None.ensures.steps in
    let empty = nothing_left _ (sym at.invariant.1 ∙ none.0) in
    let yielded : at.yielded ≡ ranges = sym (append-nil at.yielded) ∙ rw empty at at.invariant.0 in
    let whole : take (length at.yielded) ranges ≡ ranges = ap (λ l. take (length l) ranges) yielded ∙ take-length ranges in
    c.in_ok-put_left.ensures text ∙ sym (at.invariant.2.same text) ∙ ap (λ l. not (some_within l text)) whole
