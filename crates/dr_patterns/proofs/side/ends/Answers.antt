use Rattle.std.proofs.Common.{sym, subst, ◌-◌, length, take}
use Rattle.std.specs.Str.{IsCharBoundary}
use Rattle.std.proofs.lemmas.Str.{IsUtf8-take}
use Rattle.dr_patterns.proofs.Ended.{end-there, end-missing}
use Rattle.dr_patterns.proofs.side.ends.Goals as goal

pub returns-in-Some : goal.returns-in-Some
returns-in-Some c =
    let found = c.in-Some.ensures.cases in
    let cut : IsCharBoundary c.args.text.now (length c.args.text.now - found.0) = subst (λ k. IsCharBoundary c.args.text.now (length c.args.text.now - k)) (sym found.1.0) found.1.2 in
    sym (end-there c.args.end.now c.args.text.now (take (length c.args.text.now - found.0) c.args.text.now) (IsUtf8-take c.args.text.now (length c.args.text.now - found.0) c.utf8.text cut) found.1.1)

pub returns-in-None : goal.returns-in-None
returns-in-None c = sym (end-missing c.args.end.now c.args.text.now c.utf8.end c.utf8.text c.in-None.ensures.cases)
