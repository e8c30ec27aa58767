use Rattle.std.proofs.Common.{◌&&◌, ◌||◌, drop}
use Rattle.dr_filter.specs.Condition.{conditions_in, every_matches, some_matches}
use Rattle.dr_rowindex.proofs.TellLemmas.{TellWith}
use Rattle.dr_select.proofs.choosing.+choosing.Given as goal

abbrev pub invariant-met_by_every-loop-k : goal.invariant-met_by_every-loop-k
invariant-met_by_every-loop-k l =
    TellWith (λ a b. a && b) (λ row. every_matches row.time row.dims.now (conditions_in (drop l.k l.filters))) (λ row. every_matches row.time row.dims.now (conditions_in l.filters)) l.lot.rows.now l.set

abbrev pub invariant-met_by_some-loop-filter : goal.invariant-met_by_some-loop-filter
invariant-met_by_some-loop-filter l =
    TellWith (λ a b. a || b) (λ row. some_matches row.time row.dims.now (conditions_in (drop l.filter-index l.filters))) (λ row. some_matches row.time row.dims.now (conditions_in l.filters)) l.lot.rows.now l.set
