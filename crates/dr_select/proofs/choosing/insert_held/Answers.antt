use Rattle.std.proofs.Common.{rules, ◌∙◌, FitsSigned, w64, pos, get_or}
use Rattle.std.specs.Int.{w128}
use Rattle.std.proofs.lemmas.Int.{to_z-of_z}
use Rattle.std.proofs.lemmas.List.{get_or_default}
use Rattle.dr_time.specs.Interval.{holds_time}
use Rattle.dr_time.specs.declared.interval.Interval.{Interval}
use Rattle.dr_rowindex.proofs.AddLemmas.{one-more}
use Rattle.dr_select.proofs.choosing.insert_held.Goals as goal

pub loop-interval-preserved : goal.loop-interval-preserved
loop-interval-preserved c =
    let k = c.loop-interval.interval-index in
    let from = c.from-from.result in
    let to = c.from-to.result in
    let interval : Interval = get_or c.args.intervals.now k (record { start = pos 0; end = pos 0 }) in
    let from_fits : FitsSigned w128 from = search rules in
    let to_fits : FitsSigned w128 to = search rules in
    let start_fits : FitsSigned w64 interval.start = search rules in
    let end_fits : FitsSigned w64 interval.end = search rules in
    let low = c.from-from.ensures ∙ to_z-of_z w64 interval.start start_fits in
    let high = c.from-to.ensures ∙ to_z-of_z w64 interval.end end_fits in
    let added = rw (to_z-of_z w128 from from_fits, to_z-of_z w128 to to_fits, low, high) at c.insert_between.ensures in
    one-more c.args.times.now (λ i t. holds_time i t) c.args.intervals.now k interval c.args.set.now c.loop-interval.set c.insert_between.new.set c.loop-interval-test.true
    (get_or_default c.args.intervals.now k _ interval c.loop-interval-test.true) c.loop-interval.invariant added
