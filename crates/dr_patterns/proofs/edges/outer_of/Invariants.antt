use Rattle.std.proofs.Common.{◌≡◌, ◌∷◌, ◌++◌, drop}
use Rattle.dr_patterns.specs.Begun.{outer_behind}
use Rattle.dr_patterns.specs.Sides.{seen}
use Rattle.dr_patterns.proofs.edges.outer_of.Given as goal

abbrev pub invariant-loop-text : goal.invariant-loop-text
invariant-loop-text l = l.kept.items ++ outer_behind (seen l.side) l.last (drop l.text-index l.others) ≡ l.first ∷ outer_behind (seen l.side) l.first l.others
