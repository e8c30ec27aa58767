use Rattle.std.proofs.Common.{inl, inr, ◌≡◌, ◌∙◌, subst, ◌+◌, ◌-◌, ◌≤◌, false, length, drop, arith}
use Rattle.std.proofs.lemmas.Bool.{cases_lt}
use Rattle.std.proofs.lemmas.List.{length-drop}
use Rattle.dr_like.specs.Pieces.{IsBehindFirst}
use Rattle.dr_places.specs.Places.{begins}
use Rattle.dr_places.proofs.BeginLemmas.{begins-short, begins-empty, stands-nowhere, stands-first}
use Rattle.dr_places.proofs.search.behind_piece.Goals as goal

pub returns-then-count-from-clause-found : goal.returns-then-count-from-clause-found
returns-then-count-from-clause-found c =
    let p = c.args.piece.now in
    let text = c.args.places.now in
    stands-nowhere p text c.requires.lacks c.args.from (λ o le.
    begins-short p (drop o text) (omega (arith, le, length-drop o text, c.if-count-from.true, c.count.ensures)))

pub returns-then-count-eq0-clause-found : goal.returns-then-count-eq0-clause-found
returns-then-count-eq0-clause-found c =
    let p = c.args.piece.now in
    let text = c.args.places.now in
    let none : length p ≡ 0 = omega (arith, c.if-count-eq0.true) in
    let same : c.args.from + length p ≡ c.args.from = omega (arith, none) in (
      c.requires.from,
      subst (λ n. IsBehindFirst p (drop c.args.from text) (drop n text)) same
          (stands-first p text c.requires.lacks c.args.from c.args.from (omega arith) (omega (arith, none, c.requires.from)) (begins-empty p (drop c.args.from text) none) (λ k le lt. absurd (omega (arith, le, lt)))),
    )

pub overflow_add-end : goal.overflow_add-end
overflow_add-end c = omega (arith, c.count-2.type_inv, c.if-count-eq0.false, c.if-count-from.false, c.count.ensures, c.count-2.ensures)

pub returns-in-Some-clause-found : goal.returns-in-Some-clause-found
returns-in-Some-clause-found c =
    let p = c.args.piece.now in
    let text = c.args.places.now in
    let at = c.loop-at in
    let first = c.in-Some.ensures.first in
    let o = at.at + c.in-Some.k in
    let last : o + length p ≤ length text = omega (arith, first.0, c.min-some.ensures, c.loop-at-test.true, c.count-2.ensures, c.if-count-eq0.false, c.if-count-from.false, c.count.ensures) in (
      last,
      stands-first p text c.requires.lacks c.args.from o (omega (arith, at.invariant.begun)) last first.1 (λ k le lt. elim (cases_lt k at.at) [
        | inl less ↦ at.invariant.before k le less
        | inr more ↦ (let same : at.at + (k - at.at) ≡ k = omega (arith, more) in subst (λ n. begins p (drop n text) ≡ false) same (first.2 (k - at.at) (omega (arith, lt, more))))
      ]),
    )

pub loop-at-preserved : goal.loop-at-preserved
loop-at-preserved c =
    let p = c.args.piece.now in
    let text = c.args.places.now in
    let at = c.loop-at in
    record {
      begun = omega (arith, at.invariant.begun);
      most = (omega (arith, at.invariant.most.0, c.min-most.ensures), omega (arith, c.min-most.ensures));
      words = c.in_default.ensures.count ∙ at.invariant.words;
      comb = c.in_default.ensures.comb ∙ at.invariant.comb;
      before = λ o le lt. elim (cases_lt o at.at) [
        | inl less ↦ at.invariant.before o le less
        | inr more ↦ (let same : at.at + (o - at.at) ≡ o = omega (arith, more) in subst (λ n. begins p (drop n text) ≡ false) same (c.in_default.ensures.first (o - at.at) (omega (arith, lt, more))))
      ];
    }

pub returns-clause-found : goal.returns-clause-found
returns-clause-found c =
    let p = c.args.piece.now in
    let text = c.args.places.now in
    let at = c.loop-at in
    stands-nowhere p text c.requires.lacks c.args.from (λ o le. elim (cases_lt o at.at) [
      | inl less ↦ at.invariant.before o le less
      | inr more ↦ begins-short p (drop o text) (omega (arith, more, length-drop o text, c.loop-at-test.false, c.count-2.ensures, c.if-count-eq0.false))
    ])
