use Rattle.std.specs.Vec.Iter.{into_iter_items, into_iter_len}
use Rattle.std.proofs.Common.{◌≡◌, length}
use Rattle.dr_workers.specs.Shared.{rows_of}
use Rattle.dr_scatter.proofs.Kept.{Taking}
use Rattle.dr_scatter.proofs.threads.partials.Given as goal

abbrev pub invariant-loop-result : goal.invariant-loop-result
invariant-loop-result g l = Taking l.query (rows_of l.fragments) l.parts.items (into_iter_items l.result-iterator) × (into_iter_len l.result-iterator ≡ length (into_iter_items l.result-iterator))
