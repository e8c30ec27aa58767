use Rattle.dr_image.proofs.StartLemmas.{Begun}
use Rattle.dr_image.proofs.framing.starts_of.Given as goal

abbrev pub invariant-loop-d : goal.invariant-loop-d
invariant-loop-d l = Begun l.bytes l.at l.rows l.dims l.d l.place l.starts
