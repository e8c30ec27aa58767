use Rattle.std.proofs.Common.{◌≡◌}
use Rattle.dr_time.specs.Union.{union_holds}
use Rattle.dr_columns.specs.Rows.{key_at}
use Rattle.dr_columns.proofs.NarrowLemmas.{NarrowsTo}
use Rattle.dr_columns.proofs.filtering.keep_held.Given as goal

abbrev pub invariant-loop-i : goal.invariant-loop-i
invariant-loop-i l = NarrowsTo l.i (λ i. union_holds l.union (key_at l.view i).time) l.initial.told l.told × (l.held ≡ union_holds l.union l.time)
