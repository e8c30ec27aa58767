use Rattle.std.proofs.Common.{◌≡◌, drop}
use Rattle.dr_filter.specs.Condition.{conditions_in, every_matches, some_matches}
use Rattle.dr_filter.proofs.filter_tree.+matching.Given as goal

abbrev pub invariant-every_matches-loop-filter : goal.invariant-every_matches-loop-filter
invariant-every_matches-loop-filter l = every_matches l.time l.dims (conditions_in (drop l.filter-index l.filters)) ≡ every_matches l.time l.dims (conditions_in l.filters)

abbrev pub invariant-some_matches-loop-filter : goal.invariant-some_matches-loop-filter
invariant-some_matches-loop-filter l = some_matches l.time l.dims (conditions_in (drop l.filter-index l.filters)) ≡ some_matches l.time l.dims (conditions_in l.filters)
