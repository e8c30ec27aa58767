use Rattle.std.proofs.Common.{◌≡◌, take}
use Rattle.std.specs.List.{AllByRecursion}
use Rattle.dr_agg.specs.Rollup.{rows_at}
use Rattle.dr_fragment.proofs.alike.have_alike.Given as goal

abbrev pub invariant-loop-i : goal.invariant-loop-i
invariant-loop-i l = AllByRecursion (λ r. rows_at r.key l.rows ≡ rows_at r.key l.others) (take l.i l.keys)
