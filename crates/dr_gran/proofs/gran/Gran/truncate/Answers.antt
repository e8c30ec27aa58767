-- What is left over from the bucket's start is taken away; the first bucket of each granularity starts at 0001-01-01.
use Rattle.std.proofs.Common.{◌≡◌, to_z, of_z, w64, rules, arith}
use Rattle.jiff_core.proofs.SignedLemmas.{signed_arith}
use Rattle.dr_gran.specs.Truncation.{truncation}
use Rattle.dr_gran.proofs.TruncationLemmas.{truncation_bounds}
use Rattle.dr_gran.proofs.StepLemmas.{starts-rem}
use Rattle.dr_gran.proofs.gran.Gran.truncate.Goals as goal

pub returns-in-Millis-clause-value : goal.returns-in-Millis-clause-value
returns-in-Millis-clause-value c =
    let starts = starts-rem _ _ _ _ _ c.ranges.time (search rules) c.in-Millis.ensures c.into_bucket.ensures.value in
    omega (arith, signed_arith, starts)

pub returns-in-Millis-clause-low : goal.returns-in-Millis-clause-low
returns-in-Millis-clause-low c = (truncation_bounds _ _ _ c.requires.time (returns-in-Millis-clause-value c)).0

pub returns-in-Months-clause-low : goal.returns-in-Months-clause-low
returns-in-Months-clause-low c =
    let value : to_z w64 (of_z w64 c.month_start.result) ≡ truncation c.args.self c.args.time = search rules in
    (truncation_bounds _ _ _ c.requires.time value).0

pub returns-in-Months-clause-high : goal.returns-in-Months-clause-high
returns-in-Months-clause-high c =
    let value : to_z w64 (of_z w64 c.month_start.result) ≡ truncation c.args.self c.args.time = search rules in
    (truncation_bounds _ _ _ c.requires.time value).1
