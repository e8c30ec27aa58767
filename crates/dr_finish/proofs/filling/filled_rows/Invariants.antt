use Rattle.std.proofs.Common.{◌≡◌, map, take}
use Rattle.dr_ask.specs.Once.{asked_once}
use Rattle.dr_partial.specs.Partial.{filled_row}
use Rattle.dr_finish.proofs.filling.filled_rows.Given as goal

abbrev pub invariant-loop-start : goal.invariant-loop-start
invariant-loop-start l = l.rows.items ≡ map (filled_row (asked_once l.query) l.partial) (take l.start-index l.starts)
