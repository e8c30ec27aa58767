-- The bucket's start and its length, or the start of the month that follows.
use Rattle.std.proofs.Common.{◌≡◌, to_z, of_z, w64, rules, arith}
use Rattle.jiff_core.proofs.SignedLemmas.{signed_arith}
use Rattle.dr_gran.specs.Truncation.{next}
use Rattle.dr_gran.proofs.TruncationLemmas.{next_bounds}
use Rattle.dr_gran.proofs.StepLemmas.{starts-rem}
use Rattle.dr_gran.proofs.gran.Gran.bucket_end.Goals as goal

pub returns-in-Millis-clause-value : goal.returns-in-Millis-clause-value
returns-in-Millis-clause-value c =
    let starts = starts-rem _ _ _ _ _ c.ranges.time (search rules) c.in-Millis.ensures c.into_bucket.ensures.value in
    omega (arith, signed_arith, starts)

pub returns-in-Millis-clause-low : goal.returns-in-Millis-clause-low
returns-in-Millis-clause-low c = (next_bounds _ _ _ c.requires.time (returns-in-Millis-clause-value c)).0

pub returns-in-Millis-clause-high : goal.returns-in-Millis-clause-high
returns-in-Millis-clause-high c = (next_bounds _ _ _ c.requires.time (returns-in-Millis-clause-value c)).1

pub returns-in-Months-clause-low : goal.returns-in-Months-clause-low
returns-in-Months-clause-low c =
    let value : to_z w64 (of_z w64 c.month_start.result) ≡ next c.args.self c.args.time = search rules in
    (next_bounds _ _ _ c.requires.time value).0

pub returns-in-Months-clause-high : goal.returns-in-Months-clause-high
returns-in-Months-clause-high c =
    let value : to_z w64 (of_z w64 c.month_start.result) ≡ next c.args.self c.args.time = search rules in
    (next_bounds _ _ _ c.requires.time value).1
