use Rattle.dr_fragment.proofs.SameKeys.{alike_everywhere, each_alike}
use Rattle.dr_fragment.proofs.alike.are_alike.Goals as goal

pub returns-then-have_alike : goal.returns-then-have_alike
returns-then-have_alike c = (
  λ h. alike_everywhere c.args.rows.now c.args.others.now (c.have_alike.ensures.0 c.if-have_alike.true) (c.have_alike-then-have_alike.ensures.0 h),
  λ alike. c.have_alike-then-have_alike.ensures.1 (each_alike c.args.others.now c.args.rows.now c.args.others.now alike),
)

pub returns-else-have_alike : goal.returns-else-have_alike
returns-else-have_alike c = (
  λ h. absurd cc,
  λ alike. c.have_alike.ensures.1 (each_alike c.args.rows.now c.args.rows.now c.args.others.now alike),
)
