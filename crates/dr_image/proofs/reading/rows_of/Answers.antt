use Rattle.std.proofs.Common.{◌∙◌, sym, ap, map, arith}
use Rattle.std.proofs.lemmas.List.{length-map}
use Rattle.dr_image.specs.Words.{word}
use Rattle.dr_image.proofs.ContentLemmas.{piece_of_words}
use Rattle.dr_image.proofs.reading.rows_of.Goals as goal

pub returns : goal.returns
returns c =
    ap (map word) c.list_piece.ensures ∙ sym (piece_of_words (map word c.args.part.list_ends.now) c.args.part.rows.now c.args.v (omega (arith, length-map c.args.part.list_ends.now word)))
