-- The first time of the union from `from` on is not before it.
use Rattle.std.proofs.Common.{◌≡◌, rules}
use Rattle.dr_gran.specs.Buckets.{first_common}
use Rattle.dr_gran.proofs.BucketsLemmas.{common_low, common_at}
use Rattle.dr_gran.proofs.buckets.first_common.Goals as goal

pub returns-clause-low : goal.returns-clause-low
returns-clause-low c =
    let value : c.filter.result ≡ first_common c.args.union.now c.args.from c.args.to = search rules in
    common_low _ _ _ _ (common_at c.args.union.now c.args.from c.args.to c.filter.result value)
