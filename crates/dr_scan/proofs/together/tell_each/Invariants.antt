use Rattle.std.proofs.Common.{List, take, drop}
use Rattle.std.specs.List.{flat_map}
use Rattle.dr_ask.specs.Asked.{asked}
use Rattle.dr_base.specs.declared.row.Row.{Row}
use Rattle.dr_scan.specs.Chosen.{AreEachTold}
use Rattle.dr_scan.specs.Together.{AreLeft}
use Rattle.dr_scan.proofs.together.tell_each.Given as goal

-- with the segments that are left
abbrev pub invariant-loop-rows : goal.invariant-loop-rows
invariant-loop-rows l =
    AreEachTold (asked l.query) l.told.items (take l.rows-index l.segments)
    × AreLeft (asked l.query) l.passed l.next (flat_map (λ (rows : List Row). rows) (drop l.rows-index l.segments))
