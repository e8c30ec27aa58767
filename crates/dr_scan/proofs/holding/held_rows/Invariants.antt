use Rattle.std.proofs.Common.{◌≡◌, take}
use Rattle.std.specs.List.{flat_map}
use Rattle.dr_ask.specs.Asked.{asked}
use Rattle.dr_scan.specs.Together.{held}
use Rattle.dr_scan.proofs.holding.held_rows.Given as goal

abbrev pub invariant-loop-rows : goal.invariant-loop-rows
invariant-loop-rows l = l.lot.items ≡ flat_map (held (asked l.query)) (take l.rows-index l.segments)
