use Rattle.dr_ask.specs.Outputs.{distinct_from}
use Rattle.dr_ask.proofs.DistinctNames.{stood, did_not_stand, distinct_from-goes_on, distinct_from-stops, distinct_from-ends, added_more}
use Rattle.dr_ask.proofs.outputs.add_names.Goals as goal

pub returns-then-not-branch-clause-value : goal.returns-then-not-branch-clause-value
returns-then-not-branch-clause-value c =
    λ _. rw c.in_ok-copy.ensures (distinct_from-stops c.args.names.now c.loop-name.name-index c.name-item.result c.loop-name.seen (distinct_from c.args.seen.now c.args.names.now) c.loop-name-test.true c.name-item.is (stood _ _ c.in_ok-add.ensures.is_new c.if-not-branch.true) c.loop-name.invariant.same)

pub loop-name-preserved : goal.loop-name-preserved
loop-name-preserved c =
    rw (c.in_ok-add.ensures.added c.if-not-branch.false) (record {
      same = distinct_from-goes_on c.args.names.now c.loop-name.name-index c.name-item.result c.loop-name.seen (distinct_from c.args.seen.now c.args.names.now) c.loop-name-test.true c.name-item.is (did_not_stand _ _ c.in_ok-add.ensures.is_new c.if-not-branch.false) c.loop-name.invariant.same;
      added = added_more c.args.names.now c.loop-name.name-index c.name-item.result c.loop-name.seen (distinct_from c.args.seen.now c.args.names.now) c.loop-name-test.true c.name-item.is c.args.seen.now c.loop-name.invariant.added;
    })

pub returns-clause-value : goal.returns-clause-value
returns-clause-value c =
    distinct_from-ends c.args.names.now c.loop-name.name-index c.loop-name.seen (distinct_from c.args.seen.now c.args.names.now) c.loop-name-test.false c.loop-name.invariant.same
