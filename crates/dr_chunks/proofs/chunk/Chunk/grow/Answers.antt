use Rattle.std.proofs.Common.{◌≡◌, ◌∙◌, sym, ◌≤◌, ◌+◌, false, length, arith, nat_le, subst, IfSome}
use Rattle.std.proofs.lemmas.Bool.Decides.{nat_tests}
use Rattle.dr_schema.specs.Columns.{kinds_of}
use Rattle.dr_rollup.specs.OpenRows.{OpenRows, rows_with}
use Rattle.dr_rollup.specs.Unrolled.{unrolled}
use Rattle.dr_chunks.proofs.Lengths.{length-add_row}
use Rattle.dr_chunks.proofs.chunk.Chunk.grow.Goals as goal

pub unreachable-requires : goal.unreachable-requires
unreachable-requires c =
    let index = c.args.self.now.open_range in
    let event = c.args.event.now in
    let one : length (rows_with index event) ≤ length index.rows + 1 = length-add_row index.schema.rollup (kinds_of index.schema) index.rows (unrolled index.schema event) in
    let many : index.limit ≤ length (rows_with index event) = subst (λ o. IfSome o (λ (x : OpenRows). index.limit ≤ length (rows_with index event))) c.in-Some.is c.in_ok-add.ensures.many in
    let far : nat_le index.limit (length index.rows + 1) ≡ false = sym c.is_nearly_full.ensures ∙ c.if-is_nearly_full.false in
    grind (arith, nat_tests)
