use Rattle.std.proofs.Common.{rules, arith, subst}
use Rattle.std.specs.Str.{IsUtf8}
use Rattle.dr_like.proofs.Texts.{lacks-chars, chars-around}
use Rattle.dr_like.proofs.letters.split_at_letter.Goals as goal

pub returns-in_err-front-clause-parts : goal.returns-in_err-front-clause-parts
returns-in_err-front-clause-parts c = rw (c.from_residual.ensures) (lacks-chars _ _ c.utf8.text c.in_err-front.ensures.cases)

pub returns-clause-parts : goal.returns-clause-parts
returns-clause-parts c =
    let found = c.in_ok-front.ensures.cases in
    let utf8 : IsUtf8 c.in_ok-front.front.now = search rules in
    let front : IsUtf8 _ = subst IsUtf8 found.3 utf8 in
    rw (found.3, found.4) (lacks-chars _ _ front found.2.0, chars-around _ _ _ _ c.utf8.text front (omega (arith, found.5, found.7)) found.2.1)
