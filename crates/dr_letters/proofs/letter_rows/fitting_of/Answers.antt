use Rattle.std.proofs.Common.{◌≡◌, ◌∙◌, ap, sym, subst, ◌+◌, ◌<◌, [], List, ℕ, length, get_or, arith}
use Rattle.std.specs.Str.{chars}
use Rattle.std.proofs.lemmas.List.{get_or_default}
use Rattle.dr_like.specs.Like.{fits}
use Rattle.dr_rowindex.proofs.TellLemmas.{TellTo, to-failed, to-passed}
use Rattle.dr_letters.proofs.letter_rows.fitting_of.Goals as goal
use Rattle.dr_letters.proofs.letter_rows.fitting_of.Goals.{then-branch, else-branch}

pub loop-row-preserved : goal.loop-row-preserved
loop-row-preserved c =
    let at = c.loop-row in
    let texts = c.args.texts.now in
    let pattern = chars c.args.pattern.now in
    let lt : at.row < length texts = omega (arith, c.loop-row-test.true, at.auto.row-end, c.text_count-row-end.ensures) in
    let each : (t : List ℕ) → fits pattern (chars (get_or texts at.row t)) ≡ c.in_ok-fits.field-0
    = λ t. ap (λ x. fits pattern (chars x)) (get_or_default texts at.row t [] lt) ∙ sym (c.in_ok-fits.ensures ∙ ap (λ p. fits p (chars (get_or texts at.row []))) c.in_ok-asked.ensures) in
    elim c.if-branch.branch [
      | then-branch w ↦ subst (TellTo (at.row + 1) (λ t. fits pattern (chars t)) texts) (sym (w.set-is ∙ w.insert.ensures))
          (to-passed at.row (λ t. fits pattern (chars t)) texts at.set at.invariant (omega (arith, lt, at.invariant.count)) (λ t. each t ∙ w.if-branch.true))
      | else-branch w ↦ subst (TellTo (at.row + 1) (λ t. fits pattern (chars t)) texts) (sym w.set-is) (to-failed at.row (λ t. fits pattern (chars t)) texts at.set at.invariant (λ t. each t ∙ w.if-branch.false))
    ]
