use Rattle.std.proofs.Common.{◌∙◌, ◌++◌, ap, arith}
use Rattle.dr_dump.proofs.RowLemmas.{dims_whole}
use Rattle.dr_dump.proofs.row_writing.write_dimensions.Goals as goal

pub returns : goal.returns
returns c =
    (c.loop-d.invariant.0, c.loop-d.invariant.1 ∙ ap (λ l. c.args.out.now.tokens ++ l) (dims_whole c.args.view.now c.args.i c.loop-d.d (omega (arith, c.loop-d-test.false, c.dimension_count-d-end.ensures))))
