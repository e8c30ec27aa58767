use Rattle.std.proofs.Common.{◌≡◌, ◌∙◌, sym, ap, ◌||◌, ◌∷◌, length, arith}
use Rattle.std.specs.Vec.Iter.{into_iter_items}
use Rattle.dr_base.proofs.Truths.{or_regroups, or_false}
use Rattle.dr_patterns.specs.Divided.{fits_divided}
use Rattle.dr_patterns.specs.Fitting.{fits_some, fits_text}
use Rattle.dr_patterns.proofs.Implied.{nothing_left}
use Rattle.dr_patterns.proofs.divided.divided_by_kind.Goals as goal

pub loop-pattern-preserved : goal.loop-pattern-preserved
loop-pattern-preserved c =
    let at = c.loop-pattern in
    let p = c.in-Some.pattern in
    let steps : into_iter_items at.pattern-iterator ≡ p ∷ into_iter_items c.next.new.self = c.in-Some.ensures.steps.0 in (
      (let len = at.invariant.0 in let gone = c.in-Some.ensures.steps.1 in let short = ap length steps in omega (arith, len, gone, short)),
      λ text. let rest = fits_some (into_iter_items c.next.new.self) text in
          ap (λ b. b || rest) (c.in_ok-add.ensures text)
          ∙ sym (or_regroups (fits_divided at.divided text) (fits_text p text) rest)
          ∙ ap (λ l. fits_divided at.divided text || fits_some l text) (sym steps) ∙ at.invariant.1 text,
    )

pub returns : goal.returns
returns c = λ text.
    let at = c.loop-pattern in
    let none = c.in-None.ensures.steps in
    sym (or_false (fits_divided at.divided text))
    ∙ ap (λ l. fits_divided at.divided text || fits_some l text) (sym (nothing_left _ (sym at.invariant.0 ∙ none.0))) ∙ at.invariant.1 text
