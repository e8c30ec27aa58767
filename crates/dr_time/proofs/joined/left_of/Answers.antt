use Rattle.std.proofs.Common.{pos, get_or, length, ◌-◌, rules, w64, FitsSigned}
use Rattle.std.proofs.lemmas.Int.{to_z-of_z}
use Rattle.std.proofs.lemmas.Result.{IfOk-weaker}
use Rattle.dr_time.specs.declared.interval.Interval.{Interval}
use Rattle.dr_time.specs.Shared.{AreShared, AreLeft}
use Rattle.dr_time.proofs.GapLemmas.{left-between}
use Rattle.dr_time.proofs.joined.left_of.Goals as goal

pub returns-clause-left : goal.returns-clause-left
returns-clause-left c =
    let none : Interval = record { start = pos 0; end = pos 0 } in
    let first : Interval = get_or c.args.some.now 0 (record { start = pos 0; end = pos 0 }) in
    let last : Interval = get_or c.args.some.now (length c.args.some.now - 1) (record { start = pos 0; end = pos 0 }) in
    let f : FitsSigned w64 first.start = search rules in
    let g : FitsSigned w64 last.end = search rules in
    let filled = c.if-is_empty.false in
    let gaps = simp to_z-of_z at c.in_ok-gaps.ensures.gaps in
    IfOk-weaker c.shared_of.result (λ left. AreShared c.args.some.now c.in_ok-gaps.gaps.items left.items) (λ left. AreLeft c.args.some.now c.args.others.now left.items)
    (λ left shared. left-between c.args.some.now c.args.others.now c.in_ok-gaps.gaps.items left.items none c.requires.some (search rules) gaps shared)
    (rw c.as_slice.ensures.value at c.shared_of.ensures.shared)
