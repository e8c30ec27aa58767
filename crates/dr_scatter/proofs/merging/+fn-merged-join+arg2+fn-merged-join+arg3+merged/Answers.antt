use Rattle.std.proofs.Common.{rules}
use Rattle.dr_agg.specs.Rollup.{all_rows}
use Rattle.dr_scatter.specs.Folds.{AreFolds}
use Rattle.dr_scatter.proofs.Folded.{split-parts, told, both}
use denote.Param.Send.{IsSync, sendable, given_send, given_sync}
use Rattle.std.proofs.Crossing.{crosses}
use Rattle.dr_partial.proofs.partial.Partial.TheSendSync as partial
use Rattle.dr_scatter.proofs.Crossing.{query-sync}
use Rattle.dr_scatter.proofs.merging.+fn-merged-join+arg2+fn-merged-join+arg3+merged.Goals as goal

pub join-first-requires-send-F : goal.join-first-requires-send-F
join-first-requires-send-F g t c κs within =
    let threads : IsSync g.row.R = search (rules, given_sync) in
    search (sendable, crosses, query-sync, partial.the_send, given_send) depth 20

pub join-first-requires-after_bounds : goal.join-first-requires-after_bounds
join-first-requires-after_bounds g t c κs within =
    let s = split-parts c.args.query.now c.requires.0 c.in_ok-left.left.items c.in_ok-left.right.items c.args.parts.items c.in_ok-left.ensures.parts c.requires.1 in
    let left : AreFolds c.args.query.now c.in_ok-left.left.items = (s.first, s.folds_first) in
    let right : AreFolds c.args.query.now c.in_ok-left.right.items = (s.second, s.folds_second) in
    search rules

pub merge-requires-clause-own : goal.merge-requires-clause-own
merge-requires-clause-own g t c =
    let q = c.args.query.now in
    let s = split-parts q c.requires.0 c.in_ok-left.left.items c.in_ok-left.right.items c.args.parts.items c.in_ok-left.ensures.parts c.requires.1 in
    (all_rows s.first, (told q c.in_ok-left.left.items c.join-first.result.0 c.in_ok-first.field-0 c.join-first.ensures.first (c.in_ok-first.was) s.first s.folds_first).0)

pub merge-requires-clause-other : goal.merge-requires-clause-other
merge-requires-clause-other g t c =
    let q = c.args.query.now in
    let s = split-parts q c.requires.0 c.in_ok-left.left.items c.in_ok-left.right.items c.args.parts.items c.in_ok-left.ensures.parts c.requires.1 in
    (all_rows s.second, (told q c.in_ok-left.right.items c.join-first.result.1 c.in_ok-second.field-0 c.join-first.ensures.second (c.in_ok-second.was) s.second s.folds_second).0)

pub returns : goal.returns
returns g t c =
    let q = c.args.query.now in
    both q c.in_ok-left.left.items c.in_ok-left.right.items c.args.parts.items c.in_ok-first.field-0 c.in_ok-second.field-0 c.merge.result c.in_ok-left.ensures.parts
    (told q c.in_ok-left.left.items c.join-first.result.0 c.in_ok-first.field-0 c.join-first.ensures.first (c.in_ok-first.was))
    (told q c.in_ok-left.right.items c.join-first.result.1 c.in_ok-second.field-0 c.join-first.ensures.second (c.in_ok-second.was))
    c.merge.ensures.value c.merge.ensures.printable
