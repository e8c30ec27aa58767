use Rattle.std.proofs.Common.{◌≡◌, ◌*◌, ◌/◌, length, map, take}
use Rattle.std.specs.List.{AllByRecursion}
use Rattle.dr_agg.specs.Rollup.{all_rows}
use Rattle.dr_workers.specs.Shared.{rows_of}
use Rattle.dr_scatter.proofs.threads.fn.results.scope.Given as goal

abbrev pub invariant-workers : goal.invariant-workers
invariant-workers g l =
    (l.from ≡ l.k * length l.fragments / l.workers)
    × (all_rows (map (λ h. rows_of h.promise.share.now) l.children.items) ≡ rows_of (take l.from l.fragments))
    × AllByRecursion (λ h. h.promise.query.now ≡ l.query.now) l.children.items
