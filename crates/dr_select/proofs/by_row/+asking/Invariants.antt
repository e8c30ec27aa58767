use Rattle.std.proofs.Common.{◌≡◌, drop}
use Rattle.dr_filter.specs.Condition.{conditions_in, every_matches, some_matches}
use Rattle.dr_select.proofs.by_row.+asking.Given as goal

abbrev pub invariant-meets_every-loop-filter : goal.invariant-meets_every-loop-filter
invariant-meets_every-loop-filter l =
    every_matches l.row.time l.row.dims.now (conditions_in (drop l.filter-index l.filters)) ≡ every_matches l.row.time l.row.dims.now (conditions_in l.filters)

abbrev pub invariant-meets_some-loop-filter : goal.invariant-meets_some-loop-filter
invariant-meets_some-loop-filter l =
    some_matches l.row.time l.row.dims.now (conditions_in (drop l.filter-index l.filters)) ≡ some_matches l.row.time l.row.dims.now (conditions_in l.filters)
