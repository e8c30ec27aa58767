use Rattle.std.proofs.Common.{◌≡◌, ◌++◌, drop}
use Rattle.dr_ask.specs.Asked.{asked}
use Rattle.dr_scan.specs.Written.{segments_tokens}
use Rattle.dr_scan.proofs.scanning.write_in_turn.Given as goal

-- with the segments that are left
abbrev pub invariant-loop-segment : goal.invariant-loop-segment
invariant-loop-segment l =
    (l.out.before ≡ l.initial.out.before)
    × (l.out.tokens ++ segments_tokens (asked l.query) l.scan l.columns l.window (drop l.segment-index l.segments)
    ≡ l.initial.out.tokens ++ segments_tokens (asked l.query) l.scan l.columns (record { skip = l.scan.offset; left = l.scan.limit }) l.segments)
