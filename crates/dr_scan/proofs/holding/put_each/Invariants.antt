use Rattle.std.proofs.Common.{◌≡◌, ◌++◌, take}
use Rattle.dr_ask.specs.Asked.{asked}
use Rattle.dr_scan.specs.Together.{held}
use Rattle.dr_scan.proofs.holding.put_each.Given as goal

abbrev pub invariant-loop-i : goal.invariant-loop-i
invariant-loop-i l = l.lot.items ≡ l.initial.lot.items ++ held (asked l.query) (take l.i l.rows)
