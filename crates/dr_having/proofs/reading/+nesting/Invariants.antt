use Rattle.std.proofs.Common.{◌≡◌, ◌+◌, ◌*◌, drop, map}
use Rattle.std.specs.Prelude.{codes}
use Rattle.serde_json.specs.View.{items_view}
use Rattle.dr_base.specs.Each.{each_from, each}
use Rattle.dr_having.specs.Condition.{condition_in}
use Rattle.dr_having.specs.HavingOf.{having_at}
use Rattle.dr_having.proofs.reading.+nesting.Given as goal

abbrev pub invariant-each-loop-value : goal.invariant-each-loop-value
invariant-each-loop-value l =
    each_from (having_at l.inside l.dimensions l.aggregations (codes "havingSpecs")) (map condition_in l.conditions.items) (items_view (drop l.value-index l.values)) ≡ each (having_at l.inside l.dimensions l.aggregations (codes "havingSpecs")) (items_view l.values)

abbrev pub decreases-having_at : goal.decreases-having_at
decreases-having_at l = l.levels * 4

abbrev pub decreases-level : goal.decreases-level
decreases-level l = l.inside * 4 + 3

abbrev pub decreases-specs : goal.decreases-specs
decreases-specs l = l.inside * 4 + 2

abbrev pub decreases-spec : goal.decreases-spec
decreases-spec l = l.inside * 4 + 2

abbrev pub decreases-each : goal.decreases-each
decreases-each l = l.inside * 4 + 1
