use Rattle.std.proofs.Common.{◌≡◌, ◌+◌, drop}
use Rattle.dr_places.specs.Places.{begins}
use Rattle.dr_places.proofs.trying.stands_at.Given as goal

abbrev pub invariant-loop-k : goal.invariant-loop-k
invariant-loop-k l = begins l.piece (drop l.place l.letters) ≡ begins (drop l.k l.piece) (drop (l.place + l.k) l.letters)
