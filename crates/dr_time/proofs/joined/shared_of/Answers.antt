use Rattle.std.proofs.Common.{pos, arith, rules, get_or, w64, FitsSigned}
use Rattle.std.proofs.lemmas.Int.{to_z-of_z}
use Rattle.dr_time.specs.declared.interval.Interval.{Interval}
use Rattle.dr_time.proofs.JoinedLemmas.{first-done, second-done, not_after, not_before}
use Rattle.dr_time.proofs.joined.shared_of.Goals as goal

pub loop-i-preserved-then-some-i : goal.loop-i-preserved-then-some-i
loop-i-preserved-then-some-i c =
    let none : Interval = record { start = pos 0; end = pos 0 } in
    let a : Interval = get_or c.args.some.now c.loop-i.i (record { start = pos 0; end = pos 0 }) in
    let b : Interval = get_or c.args.others.now c.loop-i.j (record { start = pos 0; end = pos 0 }) in
    let f : FitsSigned w64 a.end = search rules in
    let g : FitsSigned w64 b.end = search rules in
    let was = c.loop-i.invariant in
    let le = not_after a.end b.end (simp to_z-of_z at c.if-some-i.true) in
    let next = first-done none c.args.some.now c.args.others.now c.loop-i.shared.items c.join.new.joined.items c.loop-i.i c.loop-i.j c.loop-i-test.true c.if-j-others.true c.requires.some c.requires.others (rw c.shared_with.ensures at c.in_ok-join.ensures.rising) (rw c.shared_with.ensures at c.in_ok-join.ensures.times) was.3 le in
    (omega arith, was.1, c.in_ok-join.ensures.apart, next)

pub loop-i-preserved : goal.loop-i-preserved
loop-i-preserved c =
    let none : Interval = record { start = pos 0; end = pos 0 } in
    let a : Interval = get_or c.args.some.now c.loop-i.i (record { start = pos 0; end = pos 0 }) in
    let b : Interval = get_or c.args.others.now c.loop-i.j (record { start = pos 0; end = pos 0 }) in
    let f : FitsSigned w64 a.end = search rules in
    let g : FitsSigned w64 b.end = search rules in
    let was = c.loop-i.invariant in
    let le = not_before a.end b.end (simp to_z-of_z at c.if-some-i.false) in
    let next = second-done none c.args.some.now c.args.others.now c.loop-i.shared.items c.join.new.joined.items c.loop-i.i c.loop-i.j c.loop-i-test.true c.if-j-others.true c.requires.some c.requires.others (rw c.shared_with.ensures at c.in_ok-join.ensures.rising) (rw c.shared_with.ensures at c.in_ok-join.ensures.times) was.3 le in
    (was.0, omega arith, c.in_ok-join.ensures.apart, next)
