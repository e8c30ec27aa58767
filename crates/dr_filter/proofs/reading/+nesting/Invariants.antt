use Rattle.std.proofs.Common.{◌≡◌, ◌+◌, ◌*◌, drop, map}
use Rattle.std.specs.Prelude.{codes}
use Rattle.serde_json.specs.View.{items_view}
use Rattle.dr_base.specs.Each.{each_from, each}
use Rattle.dr_filter.specs.Condition.{condition_in}
use Rattle.dr_filter.specs.FilterOf.{filter_at}
use Rattle.dr_filter.proofs.reading.+nesting.Given as goal

abbrev pub invariant-each-loop-value : goal.invariant-each-loop-value
invariant-each-loop-value l =
    each_from (filter_at l.inside l.schema (codes "fields")) (map condition_in l.filters.items) (items_view (drop l.value-index l.values)) ≡ each (filter_at l.inside l.schema (codes "fields")) (items_view l.values)

abbrev pub decreases-filter_at : goal.decreases-filter_at
decreases-filter_at l = l.levels * 4

abbrev pub decreases-level : goal.decreases-level
decreases-level l = l.inside * 4 + 3

abbrev pub decreases-fields : goal.decreases-fields
decreases-fields l = l.inside * 4 + 2

abbrev pub decreases-inner : goal.decreases-inner
decreases-inner l = l.inside * 4 + 2

abbrev pub decreases-each : goal.decreases-each
decreases-each l = l.inside * 4 + 1
