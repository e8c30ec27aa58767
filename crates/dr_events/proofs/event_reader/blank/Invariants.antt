use Rattle.std.proofs.Common.{◌≡◌, ◌-◌, ◌≤◌, length}
use Rattle.std.specs.List.{AllByRecursion}
use Rattle.dr_events.specs.declared.scalar.Scalar.TheVariants.{Null}
use Rattle.dr_events.proofs.event_reader.blank.Given as goal

abbrev pub invariant-nulls : goal.invariant-nulls
invariant-nulls l = AllByRecursion (λ s. s ≡ Null) l.found.items × (length l.found.items ≤ l.columns)

abbrev pub decreases-nulls : goal.decreases-nulls
decreases-nulls l = l.columns - length l.found.items
