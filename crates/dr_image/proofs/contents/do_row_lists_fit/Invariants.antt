use Rattle.std.proofs.Common.{◌≡◌, map, drop}
use Rattle.dr_image.specs.Words.{word}
use Rattle.dr_image.specs.Pieces.{pieces}
use Rattle.dr_image.specs.Opening.{row_lists_fit}
use Rattle.dr_image.proofs.contents.do_row_lists_fit.Given as goal

abbrev pub invariant-loop-v : goal.invariant-loop-v
invariant-loop-v l = row_lists_fit l.v (map word l.numbers) (drop l.v (pieces 0 (map word l.ends) (map word l.rows))) ≡ row_lists_fit 0 (map word l.numbers) (pieces 0 (map word l.ends) (map word l.rows))
