use Rattle.std.proofs.Common.{◌≡◌, ◌++◌, map, take}
use Rattle.dr_patterns.specs.Literals.{holding}
use Rattle.dr_patterns.proofs.parts.add_each.Given as goal

abbrev pub invariant-loop-part : goal.invariant-loop-part
invariant-loop-part l = l.others.items ≡ l.initial.others.items ++ map holding (take l.part-index l.parts)
