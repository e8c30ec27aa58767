use Rattle.dr_node.proofs.Compared.{AreCompared}
use Rattle.dr_node.proofs.closing.own_counts.Given as goal

abbrev pub invariant-loop-number : goal.invariant-loop-number
invariant-loop-number g l = AreCompared g.B.Books.seats l.seats l.places l.snapshot.stream l.number l.counts.items
