use Rattle.std.proofs.Common.{ℕ, ◌<◌}
use Rattle.dr_rollup.specs.Placed.{StandsAt}
use Rattle.dr_rollup.proofs.placed.first_of.Given as goal

abbrev pub invariant-loop-place : goal.invariant-loop-place
invariant-loop-place g l = (p : ℕ) → p < l.place → StandsAt (g.R.Keyed.keys l.rows) (record { time = l.key.time; dims = l.key.dims.now }) p → ⊥
