use Rattle.std.proofs.Common.{subst}
use Rattle.std.specs.Str.{chars}
use Rattle.dr_like.specs.Letters.{Lacks}
use Rattle.dr_like.proofs.PieceParts.{gap-nowhere, gap-more}
use Rattle.dr_like.proofs.pieces.past_gaps.Goals as goal

pub returns-in_default-split_first-clause-search : goal.returns-in_default-split_first-clause-search
returns-in_default-split_first-clause-search c =
    gap-nowhere _ _ _ _ c.in-Some.letter (chars c.in-Some.more.now) c.loop-letter.invariant.search c.in-Some.ensures.parts c.if-letter-ne95.false c.in_default-split_first.ensures.parts

pub loop-letter-preserved : goal.loop-letter-preserved
loop-letter-preserved c =
    let lacks = subst (Lacks 37) c.in-Some.ensures.parts c.loop-letter.invariant.lacks in
    record {
      search = gap-more _ _ _ _ c.in-Some.letter c.in-Some-split_first.field-0-0 (chars c.in-Some.more.now) (chars c.in-Some-split_first.behind.now) c.loop-letter.invariant.search c.in-Some.ensures.parts c.if-letter-ne95.false c.in-Some-split_first.ensures.parts;
      lacks = lacks.1;
      left_utf8 = c.in-Some.ensures.utf8;
      rest_utf8 = c.in-Some-split_first.ensures.utf8;
    }
