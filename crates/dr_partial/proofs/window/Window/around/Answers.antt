use Rattle.std.proofs.Common.{rules, FitsSigned, w64}
use Rattle.std.proofs.lemmas.Int.{to_z-of_z}
use Rattle.dr_ask.specs.Once.{asked_once}
use Rattle.dr_partial.proofs.Windows.{bounds, window-bucket, greatest_both, least_both}
use Rattle.dr_partial.proofs.window.Window.around.Goals as goal

pub returns-clause-same : goal.returns-clause-same
returns-clause-same c =
    let q = asked_once c.args.query.now in
    let held = c.held_around-held.result in
    let f0 : FitsSigned w64 c.bucket_start-bucket.result = search rules in
    let f1 : FitsSigned w64 held.start = search rules in
    let f2 : FitsSigned w64 held.end = search rules in
    let f3 : FitsSigned w64 c.truncate.result = search rules in
    let f4 : FitsSigned w64 c.bucket_end.result = search rules in
    let f5 : FitsSigned w64 c.max.result = search rules in
    let f6 : FitsSigned w64 c.min.result = search rules in
    let f7 : FitsSigned w64 c.args.time = search rules in
    let max = simp to_z-of_z at c.max.ensures.value in
    let min = simp to_z-of_z at c.min.ensures.value in
    let start = simp to_z-of_z at c.truncate.ensures.value in
    let end = simp to_z-of_z at c.bucket_end.ensures.value in
    let bucket = simp to_z-of_z at c.bucket_start-bucket.ensures in
    rw (to_z-of_z w64 c.max.result f5, to_z-of_z w64 c.min.result f6, to_z-of_z w64 c.bucket_start-bucket.result f0, max, min)
    (window-bucket q c.args.time c.bucket_start-bucket.result held c.held_around-held.ensures.held bucket c.truncate.result c.bucket_end.result c.requires.instant start end c.truncate.ensures.low)

pub returns-clause-own : goal.returns-clause-own
returns-clause-own c =
    let held = c.held_around-held.result in
    let f1 : FitsSigned w64 held.start = search rules in
    let f2 : FitsSigned w64 held.end = search rules in
    let f3 : FitsSigned w64 c.truncate.result = search rules in
    let f4 : FitsSigned w64 c.bucket_end.result = search rules in
    let f5 : FitsSigned w64 c.max.result = search rules in
    let f6 : FitsSigned w64 c.min.result = search rules in
    let f7 : FitsSigned w64 c.args.time = search rules in
    let max = simp to_z-of_z at c.max.ensures.value in
    let min = simp to_z-of_z at c.min.ensures.value in
    let low = simp to_z-of_z at c.truncate.ensures.high in
    let high = simp to_z-of_z at c.bucket_end.ensures.low in
    let own = simp to_z-of_z at c.held_around-held.ensures.own in
    let b = bounds held c.args.time own in
    rw (to_z-of_z w64 c.max.result f5, to_z-of_z w64 c.min.result f6, max, min)
    (greatest_both held.start c.truncate.result c.args.time b.0 low, least_both held.end c.bucket_end.result c.args.time b.1 high)
