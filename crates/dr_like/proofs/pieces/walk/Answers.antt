use Rattle.std.proofs.Common.{◌∙◌, sym, ap, arith, ◌++◌, length, subst, subst₂}
use Rattle.std.specs.Str.{chars}
use Rattle.dr_like.specs.Letters.{Lacks}
use Rattle.dr_like.specs.Left.{IsBehind}
use Rattle.dr_like.proofs.Patterns.{behind-more, behind-differs}
use Rattle.dr_like.proofs.Overs.{gone-more, gone-over}
use Rattle.dr_like.proofs.pieces.walk.Goals as goal

pub returns-then-not-letter_fits : goal.returns-then-not-letter_fits
returns-then-not-letter_fits c =
    let lacks = subst (Lacks 37) c.in-Some.ensures.parts c.loop-letter.invariant.lacks in
    let one = sym c.letter_fits.ensures ∙ c.if-not-letter_fits.true in (
      λ more. behind-differs (chars c.args.piece.now ++ more) (chars c.args.text.now) c.in-Some.letter c.in-Some-split_first.found (chars c.in-Some.more.now ++ more) (chars c.in-Some-split_first.behind.now)
          (subst₂ (λ p t. IsBehind (chars c.args.piece.now ++ more) (chars c.args.text.now) (p ++ more) t) c.in-Some.ensures.parts c.in-Some-split_first.ensures.parts (c.loop-letter.invariant.behind more)) lacks.0 one,
      gone-over _ _ _ _ (chars c.in-Some.more.now) c.in-Some.letter c.loop-letter.invariant.gone c.in-Some.ensures.parts,
    )

pub loop-letter-preserved : goal.loop-letter-preserved
loop-letter-preserved c =
    let lacks = subst (Lacks 37) c.in-Some.ensures.parts c.loop-letter.invariant.lacks in
    let one = sym c.letter_fits.ensures ∙ c.if-not-letter_fits.false in
    record {
      behind = λ more. behind-more (chars c.args.piece.now ++ more) (chars c.args.text.now) c.in-Some.letter c.in-Some-split_first.found (chars c.in-Some.more.now ++ more) (chars c.in-Some-split_first.behind.now)
          (subst₂ (λ p t. IsBehind (chars c.args.piece.now ++ more) (chars c.args.text.now) (p ++ more) t) c.in-Some.ensures.parts c.in-Some-split_first.ensures.parts (c.loop-letter.invariant.behind more)) lacks.0 one;
      lacks = lacks.1;
      as_far = (let a = c.loop-letter.invariant.as_far in let p = ap length c.in-Some.ensures.parts in let t = ap length c.in-Some-split_first.ensures.parts in omega (arith, a, p, t));
      gone = gone-more _ _ _ _ _ _ c.in-Some.letter c.in-Some-split_first.found c.loop-letter.invariant.gone c.in-Some.ensures.parts c.in-Some-split_first.ensures.parts;
      left_utf8 = c.in-Some.ensures.utf8;
      rest_utf8 = c.in-Some-split_first.ensures.utf8;
    }
