use Rattle.std.proofs.Common.{◌∙◌, sym, map, ℕ, List, arith, take, drop, ◌-◌}
use Rattle.dr_image.specs.Words.{word}
use Rattle.std.proofs.lemmas.List.{length-map}
use Rattle.dr_image.proofs.PieceLemmas.{get_or-pieces}
use Rattle.dr_image.proofs.pieces.text_piece.Goals as goal

pub returns : goal.returns
returns c =
    let ends : List ℕ = map word c.args.ends.now in
    let piece = get_or-pieces 0 ends c.args.texts.now c.args.place (omega (arith, length-map c.args.ends.now word)) in
    (λ i. take (c.span-start.ensures.end i - c.span-start.ensures.start i) (drop (c.span-start.ensures.start i) c.args.texts.now)) ∙ sym piece
