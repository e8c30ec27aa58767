use Rattle.std.proofs.Common.{◌∙◌, ◌<◌, length, arith}
use Rattle.std.proofs.lemmas.List.{get_or_default}
use Rattle.dr_places.proofs.BeginLemmas.{first-misses, second-misses}
use Rattle.dr_places.proofs.by_letters.next_begun.Goals as goal

pub returns-then-piece-eq1-clause-before : goal.returns-then-piece-eq1-clause-before
returns-then-piece-eq1-clause-before c k le lt =
    let piece = c.args.piece.now in
    let first = c.index-piece-0.is ∙ get_or_default piece 0 c.index-piece-0.result 0 c.requires.some in
    first-misses c.index-piece-0.result k piece c.args.text.now c.requires.some (omega (arith, lt, c.next_letter.ensures.within, c.requires.within, c.requires.some)) c.if-first-eq95.false first (c.next_letter.ensures.before k le lt)

pub returns-then-second-eq95-clause-before : goal.returns-then-second-eq95-clause-before
returns-then-second-eq95-clause-before c k le lt =
    let piece = c.args.piece.now in
    let next = c.next_letter-then-second-eq95 in
    let first = c.index-piece-0.is ∙ get_or_default piece 0 c.index-piece-0.result 0 c.requires.some in
    first-misses c.index-piece-0.result k piece c.args.text.now c.requires.some (omega (arith, lt, next.ensures.within, c.requires.within, c.requires.some)) c.if-first-eq95.false first (next.ensures.before k le lt)

pub returns-clause-before : goal.returns-clause-before
returns-clause-before c k le lt =
    let piece = c.args.piece.now in
    let more : 1 < length piece = omega (arith, c.requires.some, c.if-piece-eq1.false) in
    let first = c.index-piece-0.is ∙ get_or_default piece 0 c.index-piece-0.result 0 c.requires.some in
    let second = c.index-piece-1.is ∙ get_or_default piece 1 c.index-piece-1.result 0 more in
    second-misses c.index-piece-0.result c.index-piece-1.result k piece c.args.text.now more (omega (arith, lt, c.next_letters.ensures.within, c.requires.within, more)) c.if-first-eq95.false c.if-second-eq95.false first second (c.next_letters.ensures.before k le lt)
