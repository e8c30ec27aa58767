use Rattle.std.proofs.Common.{◌∙◌, refl, ap, sym, List, ◌++◌}
use Rattle.std.proofs.lemmas.List.{append-nil}
use Rattle.std.proofs.lemmas.Result.{on_ok_weaker}
use Rattle.dr_ask.specs.Asked.{asked}
use Rattle.dr_base.specs.declared.row.Row.{Row}
use Rattle.dr_scan.specs.Window.{after}
use Rattle.dr_scan.specs.Written.{segment_tokens}
use Rattle.dr_scan.proofs.LeftOut.{as-many, none-given}
use Rattle.dr_scan.proofs.segment_writing.write_segment.Goals as goal

pub returns-in-Some-clause-tokens : goal.returns-in-Some-clause-tokens
returns-in-Some-clause-tokens c =
    let none = none-given (asked c.args.query.now) c.in-Some.rows c.args.segment.now.rows c.in-Some.ensures.rows c.args.window.now c.in-Some.ensures.none in
    let whole = λ (rs : List Row). c.args.out.now.tokens ++ segment_tokens c.args.scan.now c.args.columns.now c.args.segment.now.identifier 0 rs in
    on_ok_weaker c.leave_out.result (λ e. (refl, sym (append-nil c.args.out.now.tokens) ∙ ap whole (sym none))) c.leave_out.ensures

pub returns-in-Some-clause-window : goal.returns-in-Some-clause-window
returns-in-Some-clause-window c =
    on_ok_weaker c.leave_out.result
    (λ e. e ∙ ap (after c.args.window.now) (as-many (asked c.args.query.now) c.in-Some.rows c.args.segment.now.rows c.in-Some.ensures.rows))
    c.leave_out.ensures
