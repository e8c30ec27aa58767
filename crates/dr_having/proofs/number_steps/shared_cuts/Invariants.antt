use Rattle.std.proofs.Common.{length, ◌-◌, ◌+◌, ◌≤◌, drop}
use Rattle.dr_having.proofs.Turning.{Shares}
use Rattle.dr_having.proofs.number_steps.shared_cuts.Given as goal

abbrev pub invariant-loop-i : goal.invariant-loop-i
invariant-loop-i l =
    (l.i ≤ length l.some) × (l.j ≤ length l.others)
    × Shares l.some_within l.others_within l.some l.others l.cuts.items l.in_some l.in_others (drop l.i l.some) (drop l.j l.others)

abbrev pub decreases-loop-i : goal.decreases-loop-i
decreases-loop-i l = (length l.some - l.i) + (length l.others - l.j)
