use Rattle.std.proofs.Common.{refl, ap}
use Rattle.std.proofs.Math.Nat.{sub-zero}
use Rattle.dr_time.proofs.DigitLemmas.{behind_digits-goes_on, behind_digits-ends}
use Rattle.dr_time.proofs.digits.behind_digits.Goals as goal

pub loop-init : goal.loop-init
loop-init c = rw sub-zero refl

pub loop-preserved : goal.loop-preserved
loop-preserved c =
    behind_digits-goes_on c.args.most c.loop.counter c.loop.rest.now c.digit_or_zero.result.1.now _ c.loop-test.true (ap (λ p. p.1) c.digit_or_zero.ensures.value) c.loop.invariant

pub returns : goal.returns
returns c = behind_digits-ends c.args.most c.loop.counter c.loop.rest.now _ c.loop-test.false c.loop.invariant
