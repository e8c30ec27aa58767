use Rattle.std.proofs.Common.{◌∙◌, ap, arith}
use Rattle.dr_ask.specs.Asked.{asked}
use Rattle.dr_scan.specs.Window.{after}
use Rattle.dr_scan.proofs.LeftOut.{few-selected, left-behind}
use Rattle.dr_scan.proofs.counting.leave_out.Goals as goal

pub overflow_sub-window : goal.overflow_sub-window
overflow_sub-window c =
    let few = few-selected (asked c.args.query.now) c.args.rows.now in
    let is = c.in_ok-count.ensures in
    let room = c.requires in
    omega (arith, few, is, room)

pub returns : goal.returns
returns c =
    let few = few-selected (asked c.args.query.now) c.args.rows.now in
    let is = c.in_ok-count.ensures in
    let room = c.requires in
    left-behind c.args.window.now c.in_ok-count.count (omega (arith, few, is, room)) ∙ ap (after c.args.window.now) is
