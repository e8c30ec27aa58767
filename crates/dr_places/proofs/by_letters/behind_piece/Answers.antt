use Rattle.std.proofs.Common.{inl, inr, ◌≡◌, ◌∙◌, sym, subst, ◌+◌, ◌≤◌, length, drop, arith}
use Rattle.std.proofs.lemmas.Bool.{cases_lt}
use Rattle.std.proofs.lemmas.List.{length-drop}
use Rattle.dr_like.specs.Pieces.{IsBehindFirst}
use Rattle.dr_places.proofs.BeginLemmas.{begins-short, begins-empty, stands-nowhere, stands-first}
use Rattle.dr_places.proofs.by_letters.behind_piece.Goals as goal

pub returns-then-count-text : goal.returns-then-count-text
returns-then-count-text c =
    let p = c.args.piece.now in
    let text = c.args.text.now in
    stands-nowhere p text c.requires.lacks c.args.from (λ o le. begins-short p (drop o text) (omega (arith, le, length-drop o text, c.if-count-text.true)))

pub returns-then-count-eq0 : goal.returns-then-count-eq0
returns-then-count-eq0 c =
    let p = c.args.piece.now in
    let text = c.args.text.now in
    let none : length p ≡ 0 = omega (arith, c.if-count-eq0.true) in
    let same : c.args.from + length p ≡ c.args.from = omega (arith, none) in (
      c.requires.from,
      subst (λ n. IsBehindFirst p (drop c.args.from text) (drop n text)) same
          (stands-first p text c.requires.lacks c.args.from c.args.from (omega arith) (omega (arith, none, c.requires.from)) (begins-empty p (drop c.args.from text) none) (λ k le lt. absurd (omega (arith, le, lt)))),
    )

-- where no place is left the piece is longer than what is behind
pub returns-then-next-end : goal.returns-then-next-end
returns-then-next-end c =
    let p = c.args.piece.now in
    let text = c.args.text.now in
    let next = c.next_begun-next in
    stands-nowhere p text c.requires.lacks c.args.from (λ o le. elim (cases_lt o next.result) [
      | inl less ↦ (elim (cases_lt o c.loop-at.at) [
        | inl before ↦ c.loop-at.invariant.before o le before
        | inr behind ↦ next.ensures.before o behind less
      ])
      | inr more ↦ begins-short p (drop o text) (omega (arith, more, length-drop o text, c.if-next-end.true, c.if-count-eq0.false, c.if-count-text.false))
    ])

pub returns-then-stands_at : goal.returns-then-stands_at
returns-then-stands_at c =
    let p = c.args.piece.now in
    let text = c.args.text.now in
    let at = c.loop-at in
    let next = c.next_begun-next in
    let last : next.result + length p ≤ length text = omega (arith, next.ensures.within, c.if-next-end.false, c.if-count-text.false) in (
      last,
      stands-first p text c.requires.lacks c.args.from next.result (omega (arith, next.ensures.from, at.invariant.begun)) last (sym c.stands_at.ensures ∙ c.if-stands_at.true) (λ k le lt. elim (cases_lt k at.at) [
        | inl less ↦ at.invariant.before k le less
        | inr more ↦ next.ensures.before k more lt
      ]),
    )

pub returns : goal.returns
returns c =
    let p = c.args.piece.now in
    let text = c.args.text.now in
    let at = c.loop-at in
    stands-nowhere p text c.requires.lacks c.args.from (λ o le. elim (cases_lt o at.at) [
      | inl less ↦ at.invariant.before o le less
      | inr more ↦ begins-short p (drop o text) (omega (arith, more, length-drop o text, c.loop-at-test.false, c.if-count-eq0.false, c.if-count-text.false))
    ])
