use Rattle.std.proofs.Common.{◌≡◌, ◌++◌, Bool, length, filter, map}
use Rattle.std.specs.Vec.Iter.{into_iter_items, into_iter_len}
use Rattle.dr_base.specs.declared.row.Row.{Row}
use Rattle.dr_finish.proofs.keeping.kept_where.Given as goal

abbrev pub invariant-loop-group : goal.invariant-loop-group
invariant-loop-group l = (l.yielded ++ into_iter_items l.group-iterator ≡ l.fn.groups.items)
    × ((l.i ≡ length l.yielded) × (((test : Row → Bool) → l.told ≡ map test l.fn.groups.items → l.kept.items ≡ filter test l.yielded)
    × (into_iter_len l.group-iterator ≡ length (into_iter_items l.group-iterator))))
