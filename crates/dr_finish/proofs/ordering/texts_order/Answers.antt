use Rattle.std.proofs.Common.{◌≡◌, ◌∙◌, arith, nat_cmp}
use Rattle.std.specs.Cmp.Lexicographic.{slice_cmp}
use Rattle.dr_outputs.specs.Numbered.{text_at}
use Rattle.dr_finish.proofs.Numbered.{is_other, is_tie, texts-differ, texts-tie, texts-end}
use Rattle.dr_finish.proofs.ordering.texts_order.Goals as goal

pub returns-then-ne : goal.returns-then-ne
returns-then-ne c =
    let o = c.cmp-order.result in
    let is : o ≡ slice_cmp nat_cmp (text_at c.loop-number.number c.args.texts.now) (text_at c.loop-number.number c.args.others.now) =
    c.cmp-order.ensures ∙ (λ i. slice_cmp nat_cmp (c.text_at.ensures i) (c.text_at-in-loop-number.ensures i)) in
    texts-differ c.args.texts.now c.args.others.now c.args.count c.loop-number.number o c.loop-number-test.true c.loop-number.invariant is (is_other o c.ne.result c.ne.ensures c.if-ne.true)

pub loop-number-preserved : goal.loop-number-preserved
loop-number-preserved c =
    let o = c.cmp-order.result in
    let is : o ≡ slice_cmp nat_cmp (text_at c.loop-number.number c.args.texts.now) (text_at c.loop-number.number c.args.others.now) =
    c.cmp-order.ensures ∙ (λ i. slice_cmp nat_cmp (c.text_at.ensures i) (c.text_at-in-loop-number.ensures i)) in
    texts-tie c.args.texts.now c.args.others.now c.args.count c.loop-number.number o c.loop-number.invariant is (is_tie o c.ne.result c.ne.ensures c.if-ne.false)

pub returns : goal.returns
returns c = texts-end c.args.texts.now c.args.others.now c.args.count c.loop-number.number (omega (arith, c.loop-number-test.false)) (omega (arith, c.loop-number.auto.number-end)) c.loop-number.invariant
