use Rattle.std.proofs.Common.{◌≡◌, ◌∙◌, refl, ap, [], ◌++◌, length, drop, append-nil, subst}
use Rattle.std.specs.Str.{chars}
use Rattle.std.proofs.lemmas.List.{drop_at}
use Rattle.std.proofs.lemmas.Str.{chars-append}
use Rattle.dr_like.specs.Pieces.{IsBehindFirst}
use Rattle.dr_like.proofs.Patterns.{behind-start}
use Rattle.dr_like.proofs.PieceParts.{parts-fit}
use Rattle.dr_like.proofs.Places.{place-found, place-none}
use Rattle.dr_like.proofs.pieces.behind_literal.Goals as goal

pub returns-in_default : goal.returns-in_default
returns-in_default c = λ q. place-none c.args.literal.now c.utf8.literal c.requires.run c.requires.gap _ c.args.text.now c.utf8.text c.in_default.ensures.cases

pub returns : goal.returns
returns c =
    let found = c.in-Some.ensures.cases in
    let here = drop c.in-Some.at c.args.text.now in
    let end = chars (drop found.0 c.args.text.now) in
    let behind : drop (length c.args.literal.now) here ≡ drop found.0 c.args.text.now = ap (drop (length c.args.literal.now)) found.1.1.split ∙ drop_at c.args.literal.now _ _ refl in
    let stands : chars here ≡ chars c.args.literal.now ++ end = ap chars found.1.1.split ∙ chars-append _ _ c.utf8.literal in
    let fit : IsBehindFirst (chars c.args.literal.now) (chars here) end =
    subst (λ l. IsBehindFirst l (chars here) end) (append-nil (chars c.args.literal.now)) (parts-fit (chars c.args.literal.now) [] (chars here) end stands end c.requires.run (λ more. behind-start more end)) in
    rw (c.split_at-2.ensures.back, c.split_at.ensures.back, behind) (λ q. place-found c.args.literal.now c.utf8.literal c.requires.run c.requires.gap _ c.args.text.now c.in-Some.at c.utf8.text found.3 found.1.0 ∙ fit q)
