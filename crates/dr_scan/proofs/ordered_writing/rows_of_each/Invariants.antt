use Rattle.std.proofs.Common.{◌≡◌, take, map}
use Rattle.dr_scan.proofs.ordered_writing.rows_of_each.Given as goal

abbrev pub invariant-loop-segment : goal.invariant-loop-segment
invariant-loop-segment l = l.rows.items ≡ map (λ g. g.rows) (take l.segment-index l.segments)
