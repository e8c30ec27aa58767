use Rattle.std.proofs.Common.{◌≡◌, ◌∙◌, sym, true, false}
use Rattle.dr_spec.specs.Columns.{is_taken, distinct_names}
use Rattle.dr_spec.proofs.DistinctNames.{distinct_after-goes_on, distinct_after-stops, distinct_after-ends}
use Rattle.dr_spec.proofs.columns.distinct_names.Goals as goal

pub returns-then-branch : goal.returns-then-branch
returns-then-branch c =
    let test : is_taken c.name-item.result c.loop-name.before ≡ true = sym c.in_ok-is_taken.ensures.taken ∙ c.if-branch.true in
    λ _. rw c.in_ok-copy.ensures (distinct_after-stops c.as_slice-texts.result.now c.loop-name.before c.loop-name.name-index c.name-item.result (distinct_names c.args.names.now) c.loop-name-test.true c.name-item.is test c.loop-name.invariant)

pub loop-name-preserved : goal.loop-name-preserved
loop-name-preserved c =
    let test : is_taken c.name-item.result c.loop-name.before ≡ false = sym c.in_ok-is_taken.ensures.taken ∙ c.if-branch.false in
    rw (c.in_ok-is_taken.ensures.added c.if-branch.false) (distinct_after-goes_on c.as_slice-texts.result.now c.loop-name.before c.loop-name.name-index c.name-item.result (distinct_names c.args.names.now) c.loop-name-test.true c.name-item.is test c.loop-name.invariant)

pub returns : goal.returns
returns c = distinct_after-ends c.as_slice-texts.result.now c.loop-name.before c.loop-name.name-index (distinct_names c.args.names.now) c.loop-name-test.false c.loop-name.invariant
