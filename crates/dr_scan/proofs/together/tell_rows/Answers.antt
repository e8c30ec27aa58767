use Rattle.std.proofs.Common.{◌+◌, ◌++◌, ◌<◌, sym, subst, drop, []}
use Rattle.std.proofs.lemmas.Option.{get_or_from_slice_get}
use Rattle.dr_answers.specs.Selection.{selects}
use Rattle.dr_ask.specs.Asked.{asked}
use Rattle.dr_base.specs.declared.row.Row.{Row}
use Rattle.dr_scan.proofs.AskedTogether.{left-of-rows}
use Rattle.dr_scan.proofs.AtOnce.{one-told}
use Rattle.dr_scan.proofs.together.tell_rows.Goals as goal

pub loop-i-preserved : goal.loop-i-preserved
loop-i-preserved c = λ rest left.
    let q = asked c.args.query.now in
    let rows = c.args.rows.now in
    let i = c.loop-i.i in
    let r = c.row.result in
    let less = subst (λ n. i < n) c.len-i-end.ensures c.loop-i-test.true in
    let was = c.loop-i.invariant rest left in
    let now = c.tell_row-truth.ensures (drop (i + 1) rows ++ rest) (left-of-rows q c.args.passed.now c.loop-i.next rows rest i r less c.row.ensures was.1) in (
      one-told (λ (r : Row). selects q r.key) rows i r c.tell_row-truth.result [] c.loop-i.told.items c.push.new.self.items less (sym (get_or_from_slice_get rows i r r c.row.ensures)) now.0 c.in_ok-push.ensures.items was.0,
      now.1,
    )
