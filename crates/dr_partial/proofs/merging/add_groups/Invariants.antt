use Rattle.std.proofs.Common.{◌≡◌, true, length}
use Rattle.std.specs.Vec.Iter.{into_iter_items, into_iter_len}
use Rattle.dr_agg.specs.Rollup.{rollup_onto, AllFit}
use Rattle.dr_partial.specs.Grouped.{IsSound, in_order}
use Rattle.dr_partial.specs.Partial.{kinds_in}
use Rattle.dr_partial.proofs.merging.add_groups.Given as goal

-- the groups so far, with those that are left, are all of them
abbrev pub invariant-loop-group : goal.invariant-loop-group
invariant-loop-group l =
    IsSound (kinds_in l.aggregations) l.groups
    × AllFit (kinds_in l.aggregations) (into_iter_items l.group-iterator)
    × (rollup_onto true (kinds_in l.aggregations) (in_order l.groups) (into_iter_items l.group-iterator)
    ≡ rollup_onto true (kinds_in l.aggregations) (in_order l.initial.groups) l.fn.others)
    × (into_iter_len l.group-iterator ≡ length (into_iter_items l.group-iterator))
