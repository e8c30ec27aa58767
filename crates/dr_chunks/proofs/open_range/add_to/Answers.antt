use Rattle.std.proofs.Common.{◌∙◌, ap, ◌≤◌, ◌+◌, Err, length, arith}
use Rattle.dr_schema.specs.Columns.{kinds_of}
use Rattle.dr_rollup.specs.OpenRows.{rows_with}
use Rattle.dr_rollup.specs.Unrolled.{unrolled}
use Rattle.dr_chunks.proofs.Lengths.{length-add_row}
use Rattle.dr_chunks.proofs.open_range.add_to.Goals as goal

pub unreachable-requires : goal.unreachable-requires
unreachable-requires c =
    let index = c.args.index.now in
    let event = c.args.event.now in
    let one : length (rows_with index event) ≤ length index.rows + 1 = length-add_row index.schema.rollup (kinds_of index.schema) index.rows (unrolled index.schema event) in
    let room = c.requires.room in
    let over = c.add.ensures.full (c.in-Err-IndexFull.is ∙ ap Err c.in-Err-IndexFull.field-0-is) in
    omega (arith, one, room, over)
