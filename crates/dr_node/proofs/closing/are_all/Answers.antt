use Rattle.std.proofs.Common.{◌∙◌, sym, refl, ◌≤◌, arith}
use Rattle.dr_node.proofs.Seatings.{once-more}
use Rattle.dr_node.proofs.closing.are_all.Goals as goal

pub returns-then-times-ne1 : goal.returns-then-times-ne1
returns-then-times-ne1 g c = (λ h. cc, λ all. absurd (c.if-times-ne1.true (c.times.ensures ∙ all.once c.loop-number.number c.loop-number-test.true)))

pub loop-number-preserved : goal.loop-number-preserved
loop-number-preserved g c = once-more c.args.seats.now c.loop-number.number c.loop-number.invariant (sym c.times.ensures ∙ c.if-times-ne1.false)

pub returns : goal.returns
returns g c =
    let past : c.args.count ≤ c.loop-number.number = omega (arith, c.loop-number-test.false) in
    (λ h. record { count = c.if-seats-count.false; once = λ k lt. c.loop-number.invariant k (omega arith) }, λ h. refl)
