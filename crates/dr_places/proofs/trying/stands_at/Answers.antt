use Rattle.std.proofs.Common.{◌∙◌, sym, ◌+◌, ◌<◌, length, get_or, arith}
use Rattle.std.proofs.lemmas.List.{get_or_default}
use Rattle.dr_places.proofs.BeginLemmas.{any_letter, begins-more, equal-fits}
use Rattle.dr_places.proofs.trying.stands_at.Goals as goal
use Rattle.dr_places.proofs.trying.stands_at.Goals.{else-piece-k-ne95-via-then-piece-k-ne95+else-letters-place, else-piece-k-ne95-via-else-piece-k-ne95}

pub loop-k-preserved : goal.loop-k-preserved
loop-k-preserved c =
    let piece = c.args.piece.now in
    let text = c.args.letters.now in
    let at = c.loop-k in
    let lt : at.k < length piece = omega (arith, c.loop-k-test.true, at.auto.k-end) in
    let within : c.args.place + at.k < length text = omega (arith, lt, c.requires.within) in
    let letter = c.index-piece-k.is ∙ get_or_default piece at.k c.index-piece-k.result 0 lt in
    begins-more at.k c.args.place piece text lt within
    (elim c.else-piece-k-ne95.branch [
      | else-piece-k-ne95-via-then-piece-k-ne95+else-letters-place w ↦ equal-fits (get_or piece at.k 0) (get_or text (c.args.place + at.k) 0)
          (sym (w.index-letters-place.is ∙ get_or_default text (c.args.place + at.k) w.index-letters-place.result 0 within) ∙ w.if-letters-place.false
          ∙ w.index-piece-k-then-piece-k-ne95.is ∙ get_or_default piece at.k w.index-piece-k-then-piece-k-ne95.result 0 lt)
      | else-piece-k-ne95-via-else-piece-k-ne95 w ↦ any_letter (get_or piece at.k 0) (get_or text (c.args.place + at.k) 0) (sym letter ∙ w.if-piece-k-ne95.false)
    ])
    at.invariant
