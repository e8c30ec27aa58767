use Rattle.std.proofs.Common.{◌≤◌, ◌+◌, ◌-◌, pos, length}
use Rattle.dr_time.specs.Joined.{AreApart}
use Rattle.dr_time.proofs.JoinedLemmas.{Shares}
use Rattle.dr_time.proofs.joined.shared_of.Given as goal

abbrev pub invariant-loop-i : goal.invariant-loop-i
invariant-loop-i l =
    (l.i ≤ length l.some) × (l.j ≤ length l.others) × AreApart l.shared.items
    × Shares (record { start = pos 0; end = pos 0 }) l.some l.others l.shared.items l.i l.j

abbrev pub decreases-loop-i : goal.decreases-loop-i
decreases-loop-i l = (length l.some - l.i) + (length l.others - l.j)
