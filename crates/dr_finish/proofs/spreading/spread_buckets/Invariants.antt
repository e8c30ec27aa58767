use Rattle.std.proofs.Common.{◌≡◌, ◌++◌, [], length, map}
use Rattle.std.specs.Vec.Iter.{into_iter_items, into_iter_len}
use Rattle.dr_answers.specs.Spread.{spread_over}
use Rattle.dr_finish.proofs.spreading.spread_buckets.Given as goal

abbrev pub invariant-loop-bucket : goal.invariant-loop-bucket
invariant-loop-bucket l = (l.yielded ++ into_iter_items l.bucket-iterator ≡ l.fn.buckets.items)
    × (l.groups.items ≡ map (spread_over [] l.aggregations) l.yielded)
    × (into_iter_len l.bucket-iterator ≡ length (into_iter_items l.bucket-iterator))
