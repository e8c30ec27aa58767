use Rattle.std.proofs.Common.{pos, get_or, arith, rules, w64, FitsSigned}
use Rattle.std.proofs.lemmas.Int.{to_z-of_z}
use Rattle.dr_time.specs.declared.interval.Interval.{Interval}
use Rattle.dr_time.proofs.GapLemmas.{next-gap, last-gap}
use Rattle.dr_time.proofs.joined.gaps_of.Goals as goal

pub loop-other-preserved : goal.loop-other-preserved
loop-other-preserved c =
    let none : Interval = record { start = pos 0; end = pos 0 } in
    let other : Interval = get_or c.args.others.now c.loop-other.other-index (record { start = pos 0; end = pos 0 }) in
    let f : FitsSigned w64 other.start = search rules in
    let g : FitsSigned w64 other.end = search rules in
    let h : FitsSigned w64 c.max-from.result = search rules in
    let was = c.loop-other.invariant in
    let joined = c.in_ok-join.ensures in
    let latest = simp to_z-of_z at c.max-from.ensures.value in
    let next = next-gap c.args.within.now c.args.others.now c.loop-other.gaps.items c.join.new.joined.items _ c.loop-other.other-index none c.loop-other-test.true was.2 joined.rising (simp to_z-of_z at joined.times) was.3 in
    rw (to_z-of_z w64 c.max-from.result h, latest) (joined.apart, next.0, next.1, next.2)

pub returns-clause-gaps : goal.returns-clause-gaps
returns-clause-gaps c =
    let f : FitsSigned w64 c.args.within.now.end = search rules in
    let joined = c.in_ok-join-2.ensures in
    let ended = c.loop-other-test.false in
    last-gap c.args.within.now c.args.others.now c.loop-other.gaps.items c.join-2.new.joined.items _ c.loop-other.other-index (omega arith) (simp to_z-of_z at joined.times) c.loop-other.invariant.3
