use Rattle.std.proofs.Common.{rules, FitsSigned, w64}
use Rattle.std.proofs.lemmas.Int.{to_z-of_z}
use Rattle.dr_rollup.specs.Unrolled.{unrolled}
use Rattle.dr_ask.specs.Once.{asked_once}
use Rattle.dr_partial.proofs.Pieces.{added}
use Rattle.dr_partial.proofs.events.add_taken.Goals as goal

pub add_selected-requires-clause-instant : goal.add_selected-requires-clause-instant
add_selected-requires-clause-instant c =
    let fits : FitsSigned w64 c.args.time = search rules in
    rw (to_z-of_z w64 c.args.time fits) c.requires.instant

pub returns : goal.returns
returns c =
    let fits : FitsSigned w64 c.args.time = search rules in
    let adds = rw (to_z-of_z w64 c.args.time fits, c.requires.time, c.as_slice-dims.ensures, c.as_slice-3.ensures.value, c.in_ok-read_metrics.ensures, c.as_slice-2.ensures, c.as_slice.ensures, c.metrics.ensures) at c.add_selected.ensures in
    added (asked_once c.args.query.now) c.args.groups.now c.add_selected.new.groups (unrolled c.args.schema.now c.args.event.now) c.requires.taken c.add_selected.result adds
