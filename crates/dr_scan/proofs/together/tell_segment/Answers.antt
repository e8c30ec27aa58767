use Rattle.std.proofs.Common.{◌∙◌, ap, List, Bool, false, get_or}
use Rattle.dr_ask.specs.Asked.{asked}
use Rattle.dr_scan.proofs.AskedTogether.{apart-left, apart-told, truths-told}
use Rattle.dr_scan.proofs.together.tell_segment.Goals as goal

pub returns-then-lie_apart : goal.returns-then-lie_apart
returns-then-lie_apart c = λ rest left.
    let apart = c.lie_apart.ensures c.if-lie_apart.true in
    (λ i lt. ap (λ (l : List Bool). get_or l i false) c.new.ensures.items ∙ apart-told (asked c.args.query.now) c.args.rows.now i apart lt, apart-left (asked c.args.query.now) c.args.passed.now c.args.next.now c.args.rows.now rest apart left)

pub returns : goal.returns
returns c = λ rest left.
    let now = c.in_ok-told.ensures rest left in
    (truths-told (asked c.args.query.now) c.args.rows.now c.in_ok-told.told.items now.0, now.1)
