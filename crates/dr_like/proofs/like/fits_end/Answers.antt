use Rattle.std.proofs.Common.{sym, ◌∙◌, ap, ◌&&◌, subst}
use Rattle.std.specs.Str.{chars}
use Rattle.dr_like.specs.Like.{behind_some_run, fits}
use Rattle.dr_like.specs.Letters.{Lacks}
use Rattle.dr_like.proofs.Patterns.{last-none, last-some, end-fits, lacks-left}
use Rattle.dr_like.proofs.like.fits_end.Goals as goal

pub returns-in_default-split_last : goal.returns-in_default-split_last
returns-in_default-split_last c =
    let lacks = subst (Lacks 37) c.in-Some.ensures.parts c.loop-more.invariant.lacks in
    sym (last-none _ _ lacks) ∙ (λ i. behind_some_run (fits (sym c.in-Some.ensures.parts i)) (sym c.in_default-split_last.ensures.parts i)) ∙ c.loop-more.invariant.same

pub returns-then-not-letter_fits : goal.returns-then-not-letter_fits
returns-then-not-letter_fits c =
    let lacks = subst (Lacks 37) c.in-Some.ensures.parts c.loop-more.invariant.lacks in
    let one = sym c.letter_fits.ensures ∙ c.if-not-letter_fits.true in
    sym (last-some _ (chars c.in-Some-split_last.front.now) c.in-Some.letter c.in-Some-split_last.found lacks ∙ ap (λ b. b && behind_some_run (fits (chars c.in-Some.more.now)) (chars c.in-Some-split_last.front.now)) one)
    ∙ (λ i. behind_some_run (fits (sym c.in-Some.ensures.parts i)) (sym c.in-Some-split_last.ensures.parts i)) ∙ c.loop-more.invariant.same

pub loop-more-preserved : goal.loop-more-preserved
loop-more-preserved c =
    let lacks = subst (Lacks 37) c.in-Some.ensures.parts c.loop-more.invariant.lacks in
    let one = sym c.letter_fits.ensures ∙ c.if-not-letter_fits.false in
    record {
      same = sym (last-some _ (chars c.in-Some-split_last.front.now) c.in-Some.letter c.in-Some-split_last.found lacks ∙ ap (λ b. b && behind_some_run (fits (chars c.in-Some.more.now)) (chars c.in-Some-split_last.front.now)) one)
          ∙ (λ i. behind_some_run (fits (sym c.in-Some.ensures.parts i)) (sym c.in-Some-split_last.ensures.parts i)) ∙ c.loop-more.invariant.same;
      lacks = lacks-left 37 _ _ lacks;
      left_utf8 = c.in-Some.ensures.utf8;
      rest_utf8 = c.in-Some-split_last.ensures.utf8;
    }

pub returns : goal.returns
returns c = sym (end-fits (chars c.loop-more.rest.now)) ∙ ap (λ p. behind_some_run (fits p) (chars c.loop-more.rest.now)) (sym c.in_default.ensures.parts) ∙ c.loop-more.invariant.same
