use Rattle.std.proofs.Common.{◌+◌, drop, Some, List}
use Rattle.std.specs.List.{flat_map}
use Rattle.dr_ask.specs.Asked.{asked}
use Rattle.dr_base.specs.declared.row.Row.{Row}
use Rattle.dr_scan.proofs.AskedTogether.{each-next, left-of-each}
use Rattle.dr_scan.proofs.together.tell_each.Goals as goal

pub loop-rows-preserved : goal.loop-rows-preserved
loop-rows-preserved c =
    let q = asked c.args.query.now in
    let segments = c.args.segments.now in
    let i = c.loop-rows.rows-index in
    let rows = c.rows-item.result in
    let now = c.in_ok-selection.ensures (flat_map (λ (rows : List Row). rows) (drop (i + 1) segments)) (left-of-each q c.args.passed.now c.loop-rows.next segments i rows c.loop-rows-test.true c.rows-item.is c.loop-rows.invariant.1) in (
      each-next q c.loop-rows.told.items c.push.new.self.items segments i (Some c.in_ok-selection.selection) rows c.loop-rows-test.true c.rows-item.is c.in_ok-push.ensures.items c.loop-rows.invariant.0 now.0,
      now.1,
    )
