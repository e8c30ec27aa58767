use Rattle.std.proofs.Common.{◌∙◌, sym}
use Rattle.dr_image.proofs.PieceLemmas.{ends_fit-falls, ends_fit-goes_on, ends_fit-ends}
use Rattle.dr_image.proofs.pieces.do_ends_fit.Goals as goal

pub returns-then-end-start : goal.returns-then-end-start
returns-then-end-start c = sym (sym c.loop-end.invariant ∙ ends_fit-falls c.args.ends.now c.loop-end.end-index c.loop-end.start c.number-end.result c.args.last c.loop-end-test.true c.number-end.ensures c.if-end-start.true)

pub loop-end-preserved : goal.loop-end-preserved
loop-end-preserved c = sym (ends_fit-goes_on c.args.ends.now c.loop-end.end-index c.loop-end.start c.number-end.result c.args.last c.loop-end-test.true c.number-end.ensures c.if-end-start.false) ∙ c.loop-end.invariant

pub returns : goal.returns
returns c = sym (ends_fit-ends c.args.ends.now c.loop-end.end-index c.loop-end.start c.args.last c.loop-end-test.false) ∙ c.loop-end.invariant
