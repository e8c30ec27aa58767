use Rattle.std.proofs.Common.{◌∙◌, refl, ap, [], ◌∷◌, ◌++◌}
use Rattle.std.specs.Str.{chars}
use Rattle.dr_like.specs.Like.{behind_some_run, fits}
use Rattle.dr_like.proofs.Overs.{over-past, over-next}
use Rattle.dr_like.proofs.PieceParts.{parts-fit, parts-short, parts-later, letter-skips, letter-nowhere}
use Rattle.dr_like.proofs.pieces.behind_gapped.Goals as goal

pub compare-requires-clause-missed : goal.compare-requires-clause-missed
compare-requires-clause-missed c =
    over-past (chars c.args.others.now) (c.args.letter ∷ []) (chars c.loop-front.rest.now) (chars c.in-Some.front.now) (c.args.letter ∷ chars c.in-Some.behind.now) (chars c.in-Some.behind.now) c.loop-front.missed c.past.result
    c.in-Some.ensures.parts.1 refl c.loop-front.invariant.over c.past.ensures

pub returns-in-Behind : goal.returns-in-Behind
returns-in-Behind c =
    let others = chars c.args.others.now in
    let parts = c.in-Some.ensures.parts in
    let here = c.args.letter ∷ chars c.in-Some.behind.now in
    λ q. c.loop-front.invariant.search q ∙ ap (behind_some_run (fits ((c.args.letter ∷ others) ++ 37 ∷ q))) parts.1 ∙ letter-skips c.args.letter others c.requires.run c.requires.gap (chars c.in-Some.front.now) here parts.0 q
    ∙ parts-fit (c.args.letter ∷ []) others here (chars c.in-Some.behind.now) refl (chars c.in-Behind.end.now) (c.requires.run.0, tt) c.in-Behind.ensures q

pub returns-in-TextEnds : goal.returns-in-TextEnds
returns-in-TextEnds c =
    let others = chars c.args.others.now in
    let parts = c.in-Some.ensures.parts in
    let here = c.args.letter ∷ chars c.in-Some.behind.now in
    λ q. c.loop-front.invariant.search q ∙ ap (behind_some_run (fits ((c.args.letter ∷ others) ++ 37 ∷ q))) parts.1 ∙ letter-skips c.args.letter others c.requires.run c.requires.gap (chars c.in-Some.front.now) here parts.0 q
    ∙ parts-short (c.args.letter ∷ []) others here (chars c.in-Some.behind.now) refl c.requires.run c.in-TextEnds.ensures q

pub loop-front-preserved : goal.loop-front-preserved
loop-front-preserved c =
    let others = chars c.args.others.now in
    let parts = c.in-Some.ensures.parts in
    let here = c.args.letter ∷ chars c.in-Some.behind.now in
    record {
      search = λ q. c.loop-front.invariant.search q ∙ ap (behind_some_run (fits ((c.args.letter ∷ others) ++ 37 ∷ q))) parts.1 ∙ letter-skips c.args.letter others c.requires.run c.requires.gap (chars c.in-Some.front.now) here parts.0 q
          ∙ parts-later (c.args.letter ∷ []) others here (chars c.in-Some.behind.now) refl c.args.letter (chars c.in-Some.behind.now) (c.requires.run.0, tt) c.in-Differs.ensures.0 refl q;
      over = over-next others (c.args.letter ∷ []) (chars c.in-Some.behind.now) c.in-Differs.over c.next.result c.in-Differs.ensures.1 c.next.ensures.letter c.next.ensures.ahead;
      rest_utf8 = c.in-Some.ensures.utf8.1;
    }

pub returns : goal.returns
returns c = λ q. c.loop-front.invariant.search q ∙ letter-nowhere c.args.letter (chars c.args.others.now) c.requires.run c.requires.gap (chars c.loop-front.rest.now) c.in_default.ensures.parts q
