use Rattle.std.proofs.Common.{[]}
use Rattle.dr_partial.proofs.partial.Partial.of_fragment.Goals as goal

pub add_fragment-requires-clause-own : goal.add_fragment-requires-clause-own
add_fragment-requires-clause-own c = ([], c.in_ok-none.ensures.value)

pub returns-clause-value : goal.returns-clause-value
returns-clause-value c = c.in_ok-groups.ensures.value [] c.in_ok-none.ensures.value

pub returns-clause-printable : goal.returns-clause-printable
returns-clause-printable c = λ starts. c.in_ok-groups.ensures.printable starts (c.in_ok-none.ensures.printable starts)
