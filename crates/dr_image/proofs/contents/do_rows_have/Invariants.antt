use Rattle.std.proofs.Common.{◌≡◌, map, drop}
use Rattle.dr_image.specs.Words.{word}
use Rattle.dr_image.specs.Opening.{rows_have}
use Rattle.dr_image.proofs.contents.do_rows_have.Given as goal

abbrev pub invariant-loop-cell : goal.invariant-loop-cell
invariant-loop-cell l = rows_have l.least l.value (map word l.numbers) (map word (drop l.cell-index l.rows)) ≡ rows_have 0 l.value (map word l.numbers) (map word l.rows)
