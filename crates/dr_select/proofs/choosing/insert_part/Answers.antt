use Rattle.std.proofs.Common.{◌≡◌, subst, arith}
use Rattle.dr_select.specs.Parts.{AddsPart}
use Rattle.dr_select.proofs.choosing.insert_part.Goals as goal

pub returns : goal.returns
returns c =
    let at : c.loop-row.row ≡ c.args.to = omega (arith, c.loop-row-test.false, c.loop-row.auto.row-end c.requires.some) in
    subst (λ k. AddsPart c.args.part.now c.args.from k c.args.set.now c.loop-row.set) at c.loop-row.invariant
