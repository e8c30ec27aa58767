use Rattle.std.proofs.Common.{◌-◌, ◌≤◌, ◌<◌, ◌≤ℤ◌, ◌<ℤ◌, ℕ, pos, length, map, get_or}
use Rattle.dr_image.specs.Words.{long}
use Rattle.dr_columns.proofs.runs.end_between.Given as goal

abbrev pub invariant-loop-to : goal.invariant-loop-to
invariant-loop-to l =
    (l.from ≤ l.to) × (l.to ≤ length l.times)
    × ((i : ℕ) → l.from ≤ i → i < l.to → (l.start ≤ℤ get_or (map long l.times) i (pos 0)) × (get_or (map long l.times) i (pos 0) <ℤ l.end))

abbrev pub decreases-loop-to : goal.decreases-loop-to
decreases-loop-to l = length l.times - l.to
